-- A sound table as runs between void words: `Table`. Seen from a gap it is what lies left of it and what lies right
-- of it, `Left` and `Right`; `whole` puts the two together again, and `locate` looks at a table from the gap or the
-- run at a place.
-- Assumes nothing.
use Rattle.std.specs.Prelude.{ℕ, suc, ◌+◌, ◌*◌, ◌≤◌, ◌<◌, ◌≡◌, refl, Bool, true, false, List, [], ◌∷◌, ◌++◌, length, ltb, eqb}
use Rattle.std.proofs.Common.{sym, ap, ◌∙◌, subst, subst₂, append_assoc, arith, le_refl, length-append, ltb-true, ltb-false, eqb-true}
use Rattle.std.proofs.lemmas.Bool.{eqb-false}
use Rattle.rules.specs.Word.{Word, is_void}
use Rattle.rules.specs.Entry.{Entry}
use Rattle.theory.specs.Run.{Asc, none, Run}
use Rattle.theory.specs.Insert.{asc_weaken, asc_append, asc_below}

-- the words right of a gap, from place p on, and their entries
pub data Right (d : ℕ) : ℕ → List Word → List Entry → Type 0 where
  right_end : {p : ℕ} {ws : List Word} {es : List Entry} → ws ≡ [] → es ≡ [] → Right d p ws es
  right_more :
      {p : ℕ} {ws : List Word} {es : List Entry} (run : List Word) (g : Word) (v : List Word) (xs ys : List Entry) →
      Run d p run xs →
      is_void g ≡ true →
      Right d (suc (p + length run)) v ys → ws ≡ run ++ (g ∷ v) → es ≡ xs ++ ys → Right d p ws es

-- the words left of a gap, from place 0 on, and their entries
pub data Left (d : ℕ) : List Word → List Entry → Type 0 where
  left_start : {ws : List Word} {es : List Entry} → ws ≡ [] → es ≡ [] → Left d ws es
  left_more :
      {ws : List Word} {es : List Entry} (u : List Word) (g : Word) (run : List Word) (xs ys : List Entry) →
      Left d u xs → is_void g ≡ true → Run d (suc (length u)) run ys → ws ≡ u ++ (g ∷ run) → es ≡ xs ++ ys → Left d ws es

-- a table: the left guard and what lies right of it
pub data Table (d : ℕ) : List Word → List Entry → Type 0 where
  table : {g : Word} {v : List Word} {es : List Entry} → is_void g ≡ true → Right d 1 v es → Table d (g ∷ v) es

-- ---- a table from what lies on both sides of a gap
pub whole :
    {d : ℕ} {u : List Word} {xs : List Entry} (g : Word) {v : List Word} {ys : List Entry} →
    Left d u xs → is_void g ≡ true → Right d (suc (length u)) v ys → Table d (u ++ (g ∷ v)) (xs ++ ys)
whole {d} g {v} {ys} (left_start p q) void right =
    subst₂
    (Table d)
    (ap (λ (u : List Word). u ++ (g ∷ v)) (sym p))
    (ap (λ (xs : List Entry). xs ++ ys) (sym q))
    (table void (subst (λ (n : ℕ). Right d (suc n) v ys) (ap length p) right))
whole {d} g {v} {ys} (left_more u h run xs zs left hollow r p q) void right =
    subst₂
    (Table d)
    (sym (append_assoc u (h ∷ run) (g ∷ v)) ∙ ap (λ (w : List Word). w ++ (g ∷ v)) (sym p))
    (sym (append_assoc xs zs ys) ∙ ap (λ (es : List Entry). es ++ ys) (sym q))
    (whole
    h
    left
    hollow
    (right_more
    run
    g
    v
    zs
    ys
    r
    void
    (subst
    (λ (n : ℕ). Right d (suc n) v ys)
    (ap length p ∙ length-append u (h ∷ run) ∙ plus (length u) (length run))
    right)
    refl
    refl))
  where
    plus : (m n : ℕ) → m + suc n ≡ suc m + n
    plus m n = omega arith

-- ---- the order of the entries
pub right_asc :
    {d p : ℕ} {ws : List Word} {es : List Entry} → d ≤ 4096 → Right d p ws es → Asc d (p + length ws) (p * 4096) es
right_asc {d} {p} {ws} s (right_end e f) = subst (Asc d (p + length ws) (p * 4096)) (sym f) none
right_asc {d} {p} {ws} s (right_more run g v xs ys r void rest e f) =
    subst
    (Asc d (p + length ws) (p * 4096))
    (sym f)
    (asc_append
    (omega arith)
    (asc_weaken (le_refl _) (omega (arith, long)) r.asc)
    (asc_below s r.asc)
    (asc_weaken (omega arith) (omega (arith, long)) (right_asc s rest)))
  where
    long : length ws ≡ length run + suc (length v)
    long = ap length e ∙ length-append run (g ∷ v)

pub left_asc : {d : ℕ} {ws : List Word} {es : List Entry} → d ≤ 4096 → Left d ws es → Asc d (length ws) 4096 es
left_asc {d} {ws} s (left_start e f) = subst (Asc d (length ws) 4096) (sym f) none
left_asc {d} {ws} s (left_more u g run xs ys left void r e f) =
    subst
    (Asc d (length ws) 4096)
    (sym f)
    (asc_append
    (omega arith)
    (asc_weaken (le_refl _) (omega (arith, long)) (left_asc s left))
    (asc_below s (asc_weaken (le_refl _) (omega arith) (left_asc s left)))
    (asc_weaken (le_refl _) (omega (arith, long)) r.asc))
  where
    long : length ws ≡ length u + suc (length run)
    long = ap length e ∙ length-append u (g ∷ run)

-- ---- a table seen from a place
pub record AtGap (d : ℕ) (ws : List Word) (es : List Entry) (p : ℕ) : Type 0 where
  pub u : List Word
  pub g : Word
  pub v : List Word
  pub xs : List Entry
  pub ys : List Entry
  pub left : Left d u xs
  pub void : is_void g ≡ true
  pub right : Right d (suc (length u)) v ys
  pub here : p ≡ length u
  pub words : ws ≡ u ++ (g ∷ v)
  pub shown : es ≡ xs ++ ys

pub record InRun (d : ℕ) (ws : List Word) (es : List Entry) (p : ℕ) : Type 0 where
  pub u : List Word
  pub g : Word
  pub run : List Word
  pub h : Word
  pub v : List Word
  pub xs : List Entry
  pub ys : List Entry
  pub zs : List Entry
  pub left : Left d u xs
  pub void : is_void g ≡ true
  pub inside : Run d (suc (length u)) run ys
  pub hollow : is_void h ≡ true
  pub right : Right d (suc (suc (length u) + length run)) v zs
  pub after : length u < p
  pub before : p < suc (length u) + length run
  pub words : ws ≡ u ++ (g ∷ (run ++ (h ∷ v)))
  pub shown : es ≡ xs ++ (ys ++ zs)

pub data Located (d : ℕ) (ws : List Word) (es : List Entry) (p : ℕ) : Type 0 where
  at_gap : AtGap d ws es p → Located d ws es p
  in_run : InRun d ws es p → Located d ws es p

-- one run further to the right
left_on :
    {d : ℕ} {u : List Word} {xs : List Entry} (g : Word) (run : List Word) (ys : List Entry) →
    Left d u xs → is_void g ≡ true → Run d (suc (length u)) run ys → Left d (u ++ (g ∷ run)) (xs ++ ys)
left_on {u = u} {xs} g run ys left void r = left_more u g run xs ys left void r refl refl

locate_from :
    {d p : ℕ} {u : List Word} {xs : List Entry} (g : Word) {v : List Word} {ys : List Entry} (q : ℕ) →
    q ≡ suc (length u) →
    Left d u xs →
    is_void g ≡ true →
    Right d q v ys → length u ≤ p → p < q + length v → Located d (u ++ (g ∷ v)) (xs ++ ys) p
locate_from {d} {p} {u} {xs} g {v} {ys} q at left void (right_end e f) low high =
    at_gap
    (record {
      u = u;
      g = g;
      v = v;
      xs = xs;
      ys = ys;
      left = left;
      void = void;
      right = right_end e f;
      here = omega (arith, ap length e);
      words = refl;
      shown = refl;
    })
locate_from {d} {p} {u} {xs} g {v} {ys} q at left void (right_more run h w zs ts r hollow rest e f) low high =
    here_or_on (eqb p (length u)) refl (ltb p (q + length run)) refl
    (λ k.
    locate_from
    {p = p}
    h
    (suc (q + length run))
    far
    (left_on g run zs left void (subst (λ (n : ℕ). Run d n run zs) at r))
    hollow
    rest
    k
    (omega (arith, ap length e, length-append run (h ∷ w))))
  where
    far : suc (q + length run) ≡ suc (length (u ++ (g ∷ run)))
    far = omega (arith, length-append u (g ∷ run))

    here_or_on :
        (a : Bool) →
        eqb p (length u) ≡ a →
        (b : Bool) →
        ltb p (q + length run) ≡ b →
        (length (u ++ (g ∷ run)) ≤ p → Located d ((u ++ (g ∷ run)) ++ (h ∷ w)) ((xs ++ zs) ++ ts) p) →
        Located d (u ++ (g ∷ v)) (xs ++ ys) p
    here_or_on true k b l further =
        at_gap
        (record {
          u = u;
          g = g;
          v = v;
          xs = xs;
          ys = ys;
          left = left;
          void = void;
          right = subst (λ (n : ℕ). Right d n v ys) at (right_more run h w zs ts r hollow rest e f);
          here = eqb-true p (length u) k;
          words = refl;
          shown = refl;
        })
    here_or_on false k true l further =
        in_run
        (record {
          u = u;
          g = g;
          run = run;
          h = h;
          v = w;
          xs = xs;
          ys = zs;
          zs = ts;
          left = left;
          void = void;
          inside = subst (λ (n : ℕ). Run d n run zs) at r;
          hollow = hollow;
          right = subst (λ (n : ℕ). Right d (suc (n + length run)) w ts) at rest;
          after = omega (arith, eqb-false p (length u) k);
          before = omega (arith, ltb-true p (q + length run) l);
          words = ap (λ (t : List Word). u ++ (g ∷ t)) e;
          shown = ap (λ (t : List Entry). xs ++ t) f;
        })
    here_or_on false k false l further =
        subst₂
        (λ (ws : List Word) (es : List Entry). Located d ws es p)
        (append_assoc u (g ∷ run) (h ∷ w) ∙ ap (λ (t : List Word). u ++ (g ∷ t)) (sym e))
        (append_assoc xs zs ts ∙ ap (λ (t : List Entry). xs ++ t) (sym f))
        (further (omega (arith, length-append u (g ∷ run), ltb-false p (q + length run) l)))

pub locate : {d : ℕ} {ws : List Word} {es : List Entry} (p : ℕ) → Table d ws es → p < length ws → Located d ws es p
locate p (table {g} void right) lt =
    locate_from {p = p} g 1 refl (left_start refl refl) void right (omega arith) (omega arith)
