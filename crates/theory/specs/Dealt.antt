-- Homes, words and entries of a sound run side by side: `Dealt hs ws es` says that dealing the homes hs to the groups
-- of ws gives es. From the Boolean rules to `Dealt` and back; then what both directions of "a run is what laying its
-- entries gives" need.
-- Assumes nothing.
use Rattle.std.specs.Prelude.{ℕ, suc, ◌+◌, ◌*◌, ◌≤◌, ◌<◌, ◌≡◌, refl, Bool, true, false, not, ◌&&◌, ◌||◌, List, [], ◌∷◌, map, length, get_or, replicate, ltb, eqb}
use Rattle.std.proofs.Common.{sym, ap, ap₂, ◌∙◌, arith, add-zero, ltb-true, lt-ltb, eq-eqb, ne_eqb}
use Rattle.std.proofs.Math.Bool.{or_self_left}
use Rattle.std.proofs.lemmas.Bool.{false≢true}
use Rattle.rules.specs.Lists.{bit_of, count, all, any}
use Rattle.rules.specs.Word.{Word, zero_word}
use Rattle.rules.specs.Entry.{Entry, same_home}
use Rattle.rules.specs.Table.{ends_in_change, rising, due, deal}
use Rattle.rules.specs.Lay.{has_home, ends_group, lay}
use Rattle.theory.specs.Run.{code, Asc, none, next, unlock}

abbrev pub is_change : Word → Bool
is_change w = w.change

abbrev pub is_virgin : Word → Bool
is_virgin w = w.virgin

abbrev pub is_occupied : Word → Bool
is_occupied w = w.occupied

abbrev pub is_low : ℕ → Word → Bool
is_low d w = ltb w.remainder d

-- ---- Booleans
pub and_left : (a b : Bool) → a && b ≡ true → a ≡ true
and_left true b h = refl
and_left false b h = h

pub and_right : (a b : Bool) → a && b ≡ true → b ≡ true
and_right true b h = h
and_right false b h = absurd (false≢true h)

pub and_both : (a b : Bool) → a ≡ true → b ≡ true → a && b ≡ true
and_both a b p q = rw (p, q)

pub or_left : (a b : Bool) → a ≡ true → (a || b) ≡ true
or_left a b p = rw p

pub or_right : (a b : Bool) → b ≡ true → (a || b) ≡ true
or_right true b p = refl
or_right false b p = p

-- ---- the relation
pub data Dealt (d : ℕ) : List ℕ → List Word → List Entry → Type 0 where
  dealt_none : Dealt d [] [] []
  -- a group's last word
  dealt_ends :
      {h : ℕ} {hs : List ℕ} {w : Word} {ws : List Word} {e : Entry} {es : List Entry} →
      w.change ≡ true →
      w.remainder < d → e.home_place ≡ h → e.remainder ≡ w.remainder → Dealt d hs ws es →
      Dealt d (h ∷ hs) (w ∷ ws) (e ∷ es)
  -- a word with the next of its group after it
  dealt_goes :
      {h : ℕ} {hs : List ℕ} {w v : Word} {ws : List Word} {e f : Entry} {es : List Entry} →
      w.change ≡ false →
      w.remainder < d →
      w.remainder < v.remainder →
      e.home_place ≡ h →
      e.remainder ≡ w.remainder → Dealt d (h ∷ hs) (v ∷ ws) (f ∷ es) → Dealt d (h ∷ hs) (w ∷ v ∷ ws) (e ∷ f ∷ es)

-- ---- from the rules: a run whose groups are low, rising and ended, with a home for each group
-- a run that ends in change has a change bit
pub ends_counted : (w : Word) (ws : List Word) → ends_in_change (w ∷ ws) ≡ true → 0 < count is_change (w ∷ ws)
unfolding ends_in_change count
ends_counted w [] ends = rw ends (omega arith)
ends_counted w (v ∷ ws) ends = omega (arith, ends_counted v ws ends)

dealt_step :
    (d h : ℕ) (hs : List ℕ) (w v : Word) (ws : List Word) →
    w.remainder < d →
    (w.change || ltb w.remainder v.remainder) ≡ true →
    suc (length hs) ≡ bit_of w.change + count is_change (v ∷ ws) →
    ((gs : List ℕ) → length gs ≡ count is_change (v ∷ ws) → Dealt d gs (v ∷ ws) (deal gs (v ∷ ws))) →
    Dealt d (h ∷ hs) (w ∷ v ∷ ws) (deal (h ∷ hs) (w ∷ v ∷ ws))
unfolding deal
dealt_step d h hs w v ws low rise n rest = go w.change refl
  where
    go :
        (b : Bool) →
        w.change ≡ b →
        Dealt d (h ∷ hs) (w ∷ v ∷ ws)
        (record { home_place = h; remainder = w.remainder } ∷ deal (due b (h ∷ hs)) (v ∷ ws))
    go true e = dealt_ends e low refl refl (rest hs (omega (arith, rw e at n)))
    go false e =
        dealt_goes
        e
        low
        (ltb-true w.remainder v.remainder (rw e at rise))
        refl
        refl
        (rest (h ∷ hs) (omega (arith, rw e at n)))

pub dealt :
    (d : ℕ) (ws : List Word) →
    ends_in_change ws ≡ true →
    all (is_low d) ws ≡ true → rising ws ≡ true → (hs : List ℕ) → length hs ≡ count is_change ws →
    Dealt d hs ws (deal hs ws)
unfolding ends_in_change all rising count deal
dealt d [] ends low rise [] n = dealt_none
dealt d [] ends low rise (h ∷ hs) n = absurd (omega arith)
dealt d (w ∷ []) ends low rise [] n = absurd (omega (arith, rw ends at n))
dealt d (w ∷ []) ends low rise (h ∷ hs) n =
    dealt_ends
    ends
    (ltb-true _ _ (and_left (is_low d w) true low))
    refl
    refl
    (dealt d [] refl refl refl hs (omega (arith, rw ends at n)))
dealt d (w ∷ v ∷ ws) ends low rise [] n = absurd (omega (arith, ends_counted v ws ends))
dealt d (w ∷ v ∷ ws) ends low rise (h ∷ hs) n =
    dealt_step
    d
    h
    hs
    w
    v
    ws
    (ltb-true _ _ (and_left (is_low d w) _ low))
    (and_left (w.change || ltb w.remainder v.remainder) _ rise)
    n
    (dealt
    d
    (v ∷ ws)
    ends
    (and_right (is_low d w) _ low)
    (and_right (w.change || ltb w.remainder v.remainder) _ rise))

-- ---- back to the rules, and what dealing gives
pub entry_path : {e f : Entry} → e.home_place ≡ f.home_place → e.remainder ≡ f.remainder → e ≡ f
entry_path p q = λ i. record { home_place = p i; remainder = q i }

deal_cons :
    (h : ℕ) (hs : List ℕ) (w : Word) (ws : List Word) (b : Bool) →
    w.change ≡ b → deal (h ∷ hs) (w ∷ ws)
    ≡ record { home_place = h; remainder = w.remainder } ∷ deal (due b (h ∷ hs)) ws
unfolding deal
deal_cons h hs w ws b c = ap
    (λ (x : Bool). record { home_place = h; remainder = w.remainder } ∷ deal (due x (h ∷ hs)) ws) c

-- an entry for each word
pub deal_length : (hs : List ℕ) (ws : List Word) → length (deal hs ws) ≡ length ws
unfolding deal
deal_length hs [] = refl
deal_length hs (w ∷ ws) = ap suc (deal_length (due w.change hs) ws)

pub dealt_deal : {d : ℕ} {hs : List ℕ} {ws : List Word} {es : List Entry} → Dealt d hs ws es → deal hs ws ≡ es
unfolding deal
dealt_deal dealt_none = refl
dealt_deal (dealt_ends {h = h} {hs = hs} {w = w} {ws = ws} c l p q rest) =
    deal_cons h hs w ws true c ∙ ap₂ ◌∷◌ (entry_path (sym p) (sym q)) (dealt_deal rest)
dealt_deal (dealt_goes {h = h} {hs = hs} {w = w} {v = v} {ws = ws} c l r p q rest) =
    deal_cons h hs w (v ∷ ws) false c ∙ ap₂ ◌∷◌ (entry_path (sym p) (sym q)) (dealt_deal rest)

pub dealt_count :
    {d : ℕ} {hs : List ℕ} {ws : List Word} {es : List Entry} → Dealt d hs ws es → count is_change ws ≡ length hs
unfolding count
dealt_count dealt_none = refl
dealt_count (dealt_ends c l p q rest) = omega (arith, ap bit_of c, dealt_count rest)
dealt_count (dealt_goes c l r p q rest) = omega (arith, ap bit_of c, dealt_count rest)

pub dealt_size : {d : ℕ} {hs : List ℕ} {ws : List Word} {es : List Entry} → Dealt d hs ws es → length es ≡ length ws
dealt_size dealt_none = refl
dealt_size (dealt_ends c l p q rest) = ap suc (dealt_size rest)
dealt_size (dealt_goes c l r p q rest) = ap suc (dealt_size rest)

ends_cons :
    (w : Word) {d : ℕ} {hs : List ℕ} {ws : List Word} {es : List Entry} → w.change ≡ true → Dealt d hs ws es →
    ends_in_change ws ≡ true → ends_in_change (w ∷ ws) ≡ true
unfolding ends_in_change
ends_cons w c dealt_none ends = c
ends_cons w c (dealt_ends c₁ l₁ p₁ q₁ rest) ends = ends
ends_cons w c (dealt_goes c₁ l₁ r₁ p₁ q₁ rest) ends = ends

pub dealt_ends_in_change :
    {d : ℕ} {hs : List ℕ} {ws : List Word} {es : List Entry} → Dealt d hs ws es → ends_in_change ws ≡ true
unfolding ends_in_change
dealt_ends_in_change dealt_none = refl
dealt_ends_in_change (dealt_ends {w = w} c l p q rest) = ends_cons w c rest (dealt_ends_in_change rest)
dealt_ends_in_change (dealt_goes c l r p q rest) = dealt_ends_in_change rest

pub dealt_low : {d : ℕ} {hs : List ℕ} {ws : List Word} {es : List Entry} → Dealt d hs ws es → all (is_low d) ws ≡ true
unfolding all
dealt_low dealt_none = refl
dealt_low (dealt_ends c l p q rest) = and_both _ _ (lt-ltb _ _ l) (dealt_low rest)
dealt_low (dealt_goes c l r p q rest) = and_both _ _ (lt-ltb _ _ l) (dealt_low rest)

rises_cons :
    (w : Word) {d : ℕ} {hs : List ℕ} {ws : List Word} {es : List Entry} → w.change ≡ true → Dealt d hs ws es →
    rising ws ≡ true → rising (w ∷ ws) ≡ true
unfolding rising
rises_cons w c dealt_none rise = refl
rises_cons w c (dealt_ends c₁ l₁ p₁ q₁ rest) rise = and_both _ _ (or_left _ _ c) rise
rises_cons w c (dealt_goes c₁ l₁ r₁ p₁ q₁ rest) rise = and_both _ _ (or_left _ _ c) rise

pub dealt_rising : {d : ℕ} {hs : List ℕ} {ws : List Word} {es : List Entry} → Dealt d hs ws es → rising ws ≡ true
unfolding rising
dealt_rising dealt_none = refl
dealt_rising (dealt_ends {w = w} c l p q rest) = rises_cons w c rest (dealt_rising rest)
dealt_rising (dealt_goes {w = w} {v = v} c l r p q rest) =
    and_both _ _ (or_right w.change _ (lt-ltb w.remainder v.remainder r)) (dealt_rising rest)

-- ---- the homes of the entries are the homes that were dealt
unfoldable pub among : ℕ → List ℕ → Bool
among x hs = any (λ (h : ℕ). eqb h x) hs

pub dealt_homes :
    {d : ℕ} {hs : List ℕ} {ws : List Word} {es : List Entry} (x : ℕ) → Dealt d hs ws es → has_home es x ≡ among x hs
unfolding has_home any among
dealt_homes x dealt_none = refl
dealt_homes x (dealt_ends {h = h} c l p q rest) = ap₂ (λ (y : ℕ) (b : Bool). eqb y x || b) p (dealt_homes x rest)
dealt_homes x (dealt_goes {h = h} {hs = hs} c l r p q rest) =
    ap₂ (λ (y : ℕ) (b : Bool). eqb y x || b) p (dealt_homes x rest) ∙ or_self_left (eqb h x) (among x hs)

-- ---- a strictly ascending list of places, from k on and below c
pub data Rising (c : ℕ) : ℕ → List ℕ → Type 0 where
  rising_none : {k : ℕ} → Rising c k []
  rising_next : {k h : ℕ} {hs : List ℕ} → k ≤ h → h < c → Rising c (suc h) hs → Rising c k (h ∷ hs)

-- the first entry, if any, has a code of at least b
abbrev pub Least : ℕ → List Entry → Type 0
Least b [] = Unit {0}
Least b (e ∷ es) = b ≤ code e

-- the first entry is the first word's, at the first home
pub dealt_head :
    {d h : ℕ} {hs : List ℕ} {w : Word} {ws : List Word} {e : Entry} {es : List Entry} →
    Dealt d (h ∷ hs) (w ∷ ws) (e ∷ es) → (e.home_place ≡ h) × (e.remainder ≡ w.remainder)
dealt_head (dealt_ends c l p q rest) = (p, q)
dealt_head (dealt_goes c l r p q rest) = (p, q)

-- entries of later homes come after whatever has an earlier home
dealt_later :
    {d c k : ℕ} (h x : ℕ) {hs : List ℕ} {ws : List Word} {es : List Entry} →
    h < k → x < 4096 → Dealt d hs ws es → Rising c k hs → Least (suc (h * 4096 + x)) es
dealt_later h x u s dealt_none up = tt
dealt_later h x u s (dealt_ends c l p q rest) (rising_next k b up) = omega arith
dealt_later h x u s (dealt_goes c l r p q rest) (rising_next k b up) = omega arith

pub dealt_asc :
    {d c k : ℕ} (b : ℕ) {hs : List ℕ} {ws : List Word} {es : List Entry} →
    d ≤ 4096 → Dealt d hs ws es → Rising c k hs → Least b es → Asc d c b es
dealt_asc b s dealt_none up least = none
dealt_asc b s (dealt_ends {e = e} ch l p q rest) (rising_next k lt up) least =
    next
    least
    (omega arith)
    (omega arith)
    (dealt_asc
    (suc (code e))
    s
    rest
    up
    (dealt_later e.home_place e.remainder (omega arith) (omega arith) rest up))
dealt_asc b s (dealt_goes {e = e} ch l r p q rest) (rising_next k lt up) least =
    next
    least
    (omega arith)
    (omega arith)
    (dealt_asc (suc (code e)) s rest (rising_next k lt up) (omega (arith, dealt_head rest)))

-- ---- an entry ends its group where its word has change
ends_group_lem :
    {d c k : ℕ} (e : Entry) {hs : List ℕ} {ws : List Word} {es : List Entry} →
    e.home_place < k → Dealt d hs ws es → Rising c k hs → ends_group e es ≡ true
unfolding ends_group same_home
ends_group_lem e u dealt_none up = refl
ends_group_lem e u (dealt_ends {e = f} c l p q rest) (rising_next k b up) =
    ap not (ne_eqb _ _ (λ (same : e.home_place ≡ f.home_place). omega arith))
ends_group_lem e u (dealt_goes {e = f} c l r p q rest) (rising_next k b up) =
    ap not (ne_eqb _ _ (λ (same : e.home_place ≡ f.home_place). omega arith))

stays_group : (e f : Entry) (es : List Entry) → e.home_place ≡ f.home_place → ends_group e (f ∷ es) ≡ false
unfolding ends_group same_home
stays_group e f es same = ap not (eq-eqb e.home_place f.home_place same)

pub word_path :
    {w v : Word} →
    w.remainder ≡ v.remainder →
    w.occupied ≡ v.occupied → w.virgin ≡ v.virgin → w.change ≡ v.change → w.lock ≡ v.lock → w ≡ v
word_path p q r s t = λ i. record { remainder = p i; occupied = q i; virgin = r i; change = s i; lock = t i }

-- whether the virgin bits of words from place q on stand where the entries `whole` have their homes
abbrev pub Virgins : List Entry → ℕ → List Word → Type 0
Virgins whole q ws = (i : ℕ) → i < length ws → has_home whole (q + i) ≡ (get_or ws i zero_word).virgin

virgins_tail :
    (whole : List Entry) (q : ℕ) (w : Word) (ws : List Word) → Virgins whole q (w ∷ ws) → Virgins whole (suc q) ws
virgins_tail whole q w ws v i lt =
    ap (has_home whole) (plus q i) ∙ v (suc i) (omega arith)
  where
    plus : (q i : ℕ) → suc q + i ≡ q + suc i
    plus q i = omega arith

virgins_head :
    (whole : List Entry) (q : ℕ) (w : Word) (ws : List Word) → Virgins whole q (w ∷ ws) → has_home whole q ≡ w.virgin
virgins_head whole q w ws v = ap (has_home whole) (sym (add-zero q)) ∙ v 0 (omega arith)

-- laying the dealt entries gives the words back, lock bits aside
pub dealt_lay :
    {d c k : ℕ} (whole : List Entry) (q : ℕ) {hs : List ℕ} {ws : List Word} {es : List Entry} →
    Dealt d hs ws es →
    Rising c k hs →
    all is_occupied ws ≡ true → Virgins whole q ws → lay whole q (replicate (length es) true) es ≡ map unlock ws
unfolding lay all
dealt_lay whole q dealt_none up occ vs = refl
dealt_lay whole q (dealt_ends {w = w} {ws = ws} {e = e} ch l p r rest) (rising_next k lt up) occ vs =
    ap₂
    ◌∷◌
    (word_path
    r
    (sym (and_left w.occupied _ occ))
    (virgins_head whole q w ws vs)
    (ends_group_lem e (omega arith) rest up ∙ sym ch)
    refl)
    (dealt_lay whole (suc q) rest up (and_right w.occupied _ occ) (virgins_tail whole q w ws vs))
dealt_lay whole q (dealt_goes {w = w} {v = v} {ws = ws} {e = e} {f = f} ch l b p r rest) (rising_next k lt up) occ vs =
    ap₂
    ◌∷◌
    (word_path
    r
    (sym (and_left w.occupied _ occ))
    (virgins_head whole q w (v ∷ ws) vs)
    (stays_group e f _ (omega (arith, dealt_head rest)) ∙ sym ch)
    refl)
    (dealt_lay
    whole
    (suc q)
    rest
    (rising_next k lt up)
    (and_right w.occupied _ occ)
    (virgins_tail whole q w (v ∷ ws) vs))
