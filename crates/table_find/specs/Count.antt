-- The occupied words of a table counted place by place, and the fill figure of the count.
-- Assumes nothing.
use Rattle.std.specs.Prelude.{ℕ, ◌+◌, ◌*◌, ◌≤◌, ◌<◌, ◌≡◌, List, length}
use Rattle.std.proofs.Common.{add-zero, arith, take_all}
use Rattle.std.proofs.Math.Seq.{slice}
use Rattle.rules.specs.Lists.{bit_of, count}
use Rattle.rules.specs.Word.{word_of}
use Rattle.rules.specs.Bytes.{words_of}
use Rattle.rules.specs.Table.{at}
use Rattle.table_words.specs.Layout.{words_length}
use Rattle.theory.specs.Dealt.{is_occupied}
use Rattle.table_cluster.specs.Run.{run_step, run_end}

-- k places are counted, and those from place i on are to come
module _ (bs : List ℕ) (n : ℕ) where
  abbrev pub counted : ℕ → ℕ → ℕ
  counted k i = k + count is_occupied (slice i n (words_of bs))

  pub count_begins : length bs ≡ 2 * n → counted 0 0 ≡ count is_occupied (words_of bs)
  count_begins even = rw (take_all n (words_of bs) (omega (arith, words_length bs n even))) (omega arith)

  -- the word at place i is counted
  pub count_passes :
      (k i w b : ℕ) → i < n → length bs ≡ 2 * n → word_of w ≡ at (words_of bs) i → b ≡ bit_of (word_of w).occupied →
      counted (k + b) (i + 1) ≡ counted k i
  unfolding count
  count_passes k i w b low even word bit = rw (run_step bs i n low (omega arith), ← word, ← bit) (omega arith)

  pub count_ends : (k i : ℕ) → n ≤ i → counted k i ≡ k
  unfolding count
  count_ends k i h = rw (run_end bs i n h) (add-zero k)
