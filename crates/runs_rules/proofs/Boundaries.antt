-- Going by boundaries lists what going address by address does, and the plain scan changes at the boundaries of its routes
-- only: RULES, "The run listing". Assumes nothing.
use mathlib.Core.Path.{◌≡◌, refl, sym, ap, ◌∙◌}
use mathlib.Core.Logic.{◌⊎◌, inl, inr, ⊎_elim}
use mathlib.Core.Bool.{Bool, true, false, ◌||◌}
use mathlib.Core.List.{List, [], ◌∷◌}
use Prim.Native.Nat.{ℕ, zero, suc, ◌+◌, ◌-◌, ◌*◌, ◌≤◌, ◌<◌}
use native.Mathlib.Omega.{arith}
use lib.Dec.{eqb, leb, ltb}
use lib.ListN.{length}
use borrow.Author.Tests.{eq-eqb, ne_eqb, eqb-true, eqb-false, lt-ltb, le-ltb, leb-true, leb-false, ltb-true, ltb-false}
use Rattle.bits.specs.Prefix.{first, last}
use Rattle.lists.proofs.Tests.{way, neither}
use Rattle.bits.proofs.Prefix.{matches_same}
use Rattle.trie.specs.Scan.{plain_scan}
use Rattle.lists.specs.Numbered.{list_of}
use Rattle.routes.specs.Scan.{route_matches, scan_of}
use Rattle.routes.specs.declared.Route.{Route}
use Rattle.lists.proofs.Numbered.{mem_list_of, map_list_of}
use Rattle.routes.proofs.Held.{plain_scan_map}
use Rattle.runs_rules.specs.Runs.{Run, run, runs_from}
use Rattle.runs_rules.specs.Boundaries.{insert, boundaries, ends, runs_by}
use Rattle.runs_rules.proofs.Runs.{runs_from_same, runs_from_other, runs_from_all, runs_from_to}

-- x is one of the addresses
unfoldable pub among : ℕ → List ℕ → Bool
among x [] = false
among x (d ∷ ds) = eqb x d || among x ds

-- the addresses rise, from p on
abbrev pub Rising : ℕ → List ℕ → Type 0
Rising p [] = Unit {0}
Rising p (d ∷ ds) = (p ≤ d) × Rising d ds

rising_lower : (q p : ℕ) (ds : List ℕ) → q ≤ p → Rising p ds → Rising q ds
rising_lower q p [] h r = tt
rising_lower q p (d ∷ ds) h r = (omega (arith, r.0), r.1)

-- an address below them is not among them
below_none : (x p : ℕ) (ds : List ℕ) → x < p → Rising p ds → among x ds ≡ false
unfolding among
below_none x p [] h r = refl
below_none x p (d ∷ ds) h r =
    rw (ne_eqb x d (λ e. omega (arith, r.0)), below_none x d ds (omega (arith, r.0)) r.1)

-- one address more among them

pub length_insert : (c : ℕ) (ds : List ℕ) → length (insert c ds) ≡ suc (length ds)
unfolding insert
length_insert c [] = refl
length_insert c (d ∷ ds) =
    ⊎_elim
    (λ (t : leb c d ≡ true). rw t)
    (λ (t : leb c d ≡ false). rw t (ap suc (length_insert c ds)))
    (way (leb c d))

rising_insert : (p c : ℕ) (ds : List ℕ) → p ≤ c → Rising p ds → Rising p (insert c ds)
unfolding insert
rising_insert p c [] h r = (h, tt)
rising_insert p c (d ∷ ds) h r =
    ⊎_elim
    (λ (t : leb c d ≡ true). rw t (h, (leb-true c d t, r.1)))
    (λ (t : leb c d ≡ false). rw t (r.0, rising_insert d c ds (omega (arith, leb-false c d t)) r.1))
    (way (leb c d))

-- what is not among them then was not before, and is another
among_insert : (x c : ℕ) (ds : List ℕ) → among x (insert c ds) ≡ false → (eqb x c ≡ false) × (among x ds ≡ false)
unfolding insert among
among_insert x c [] e = neither (eqb x c) false e
among_insert x c (d ∷ ds) e =
    ⊎_elim
    (λ (t : leb c d ≡ true). neither (eqb x c) (eqb x d || among x ds) (rw t at e))
    (λ (t : leb c d ≡ false).
    let b = neither (eqb x d) (among x (insert c ds)) (rw t at e) in
    let i = among_insert x c ds b.1 in
    (i.0, rw (b.0, i.1)))
    (way (leb c d))

-- going by addresses where f alone can change

module _ (f : ℕ → ℕ) (n : ℕ) where
  -- f changes, from address c on, at the given addresses only
  abbrev pub Changes : ℕ → List ℕ → Type 0
  Changes c cs = (x : ℕ) → c ≤ x → x < n → among x cs ≡ false → f x ≡ f (x - 1)

  -- where it changes nowhere, it stays
  stays : (s c to : ℕ) → f (c - 1) ≡ f s → ((x : ℕ) → c ≤ x → x < to → f x ≡ f (x - 1)) → (j : ℕ) → c + j < to → f (c + j) ≡ f s
  stays s c to e h zero l =
      let z : c + 0 ≡ c = omega arith in rw z (h c (omega arith) (omega arith) ∙ e)
  stays s c to e h (suc j) l =
      let z : c + suc j - 1 ≡ c + j = omega arith in
      h (c + suc j) (omega arith) (omega arith) ∙ ap f z ∙ stays s c to e h j (omega arith)

  -- so the open run goes on up to there
  stays_to : (s c to : ℕ) → f (c - 1) ≡ f s → c ≤ to → to ≤ n → ((x : ℕ) → c ≤ x → x < to → f x ≡ f (x - 1))
      → runs_from f s c (n - c) ≡ runs_from f s to (n - to)
  stays_to s c to e h l same =
      runs_from_to f n s c to h l
      (λ x u v. let z : c + (x - c) ≡ x = omega arith in rw z at (stays s c to e same (x - c) (omega arith)))

  -- one address d where f can change: the run that is open since s goes on up to it, past it, or ends before it
  module _ (s c d : ℕ) (ds : List ℕ) (h : c ≤ n) (r : Rising (c - 1) (d ∷ ds)) (e : f (c - 1) ≡ f s) (ch : Changes c (d ∷ ds)) where
    up_to : c ≤ d → d < n → runs_from f s c (n - c) ≡ runs_from f s d (suc (n - (d + 1)))
    unfolding among
    up_to l k =
        let z : n - d ≡ suc (n - (d + 1)) = omega arith in
        stays_to s c d e l (omega arith) (λ x u v. ch x u (omega arith) (below_none x d (d ∷ ds) v (omega arith, r.1)))
        ∙ ap (λ (j : ℕ). runs_from f s d j) z

    -- the addresses after d
    changes_past : Changes (d + 1) ds
    unfolding among
    changes_past x u v t =
        let p = r.0 in ch x (omega arith) v (rw (ne_eqb x d (λ z. omega arith), t))

    -- the addresses but d, which is before c or past the end
    changes_but : ((x : ℕ) → c ≤ x → x < n → x ≡ d → ⊥) → Changes c ds
    unfolding among
    changes_but not_here x u v t = ch x u v (rw (ne_eqb x d (not_here x u v), t))

    rises_past : Rising (d + 1 - 1) ds
    rises_past = let z : d + 1 - 1 ≡ d = omega arith in rw z r.1

    at_past : f (d + 1 - 1) ≡ f d
    at_past = let z : d + 1 - 1 ≡ d = omega arith in ap f z

    abbrev Listed : ℕ → ℕ → Type 0
    Listed s' c' = c' ≤ n → Rising (c' - 1) ds → f (c' - 1) ≡ f s' → Changes c' ds → runs_from f s' c' (n - c') ≡ runs_by f n s' ds

    -- it ends
    by_end : Listed d (d + 1) → d < n → (f d ≡ f s → ⊥) → runs_from f s c (n - c) ≡ runs_by f n s (d ∷ ds)
    unfolding runs_by
    by_end rest k ne =
        up_to (begun (way (leb c d))) k ∙ runs_from_other f s d (n - (d + 1)) ne
        ∙ rw (lt-ltb d n k, ne_eqb (f d) (f s) ne)
        (ap (λ (rs : List Run). run s (d - 1) (f s) ∷ rs) (rest (omega arith) rises_past at_past changes_past))
      where
        begun : (leb c d ≡ true) ⊎ (leb c d ≡ false) → c ≤ d
        begun (inl t) = leb-true c d t
        begun (inr t) =
            let z : c - 1 ≡ d = omega (arith, leb-false c d t, r.0) in absurd (ne (ap f (sym z) ∙ e))

    -- it goes on
    by_same : Listed s c → Listed s (d + 1) → d < n → f d ≡ f s → runs_from f s c (n - c) ≡ runs_by f n s (d ∷ ds)
    unfolding runs_by
    by_same rest past k same =
        rw (lt-ltb d n k, eq-eqb (f d) (f s) same)
        (⊎_elim
        (λ (t : leb c d ≡ true).
        up_to (leb-true c d t) k ∙ runs_from_same f s d (n - (d + 1)) same
        ∙ past (omega arith) rises_past (at_past ∙ same) changes_past)
        (λ (t : leb c d ≡ false).
        let l = leb-false c d t in
        rest h (rising_lower (c - 1) d ds r.0 r.1) e (changes_but (λ x u v z. omega arith)))
        (way (leb c d)))

    -- d is past the end
    by_none : Listed s c → n ≤ d → runs_from f s c (n - c) ≡ runs_by f n s (d ∷ ds)
    unfolding runs_by
    by_none rest k =
        rw (le-ltb d n k)
        (rest h (rising_lower (c - 1) d ds r.0 r.1) e (changes_but (λ x u v z. omega arith)))

  runs_by_from : (cs : List ℕ) (s c : ℕ) → c ≤ n → Rising (c - 1) cs → f (c - 1) ≡ f s → Changes c cs
      → runs_from f s c (n - c) ≡ runs_by f n s cs
  unfolding among runs_by
  runs_by_from [] s c h r e ch =
      stays_to s c n e h (omega arith) (λ x u v. ch x u v refl) ∙ runs_from_all f s n (n - n) (omega arith)
  runs_by_from (d ∷ ds) s c h r e ch =
      ⊎_elim
      (λ (t : ltb d n ≡ true).
      ⊎_elim
      (λ (u : eqb (f d) (f s) ≡ true).
      by_same s c d ds h r e ch (runs_by_from ds s c) (runs_by_from ds s (d + 1)) (ltb-true d n t) (eqb-true (f d) (f s) u))
      (λ (u : eqb (f d) (f s) ≡ false).
      by_end s c d ds h r e ch (runs_by_from ds d (d + 1)) (ltb-true d n t) (eqb-false (f d) (f s) u))
      (way (eqb (f d) (f s))))
      (λ (t : ltb d n ≡ false). by_none s c d ds h r e ch (runs_by_from ds s c) (ltb-false d n t))
      (way (ltb d n))

  pub runs_by_is : (cs : List ℕ) → Rising 0 cs → Changes 0 cs → runs_from f 0 0 (n - 0) ≡ runs_by f n 0 cs
  runs_by_is cs r ch = runs_by_from cs 0 0 (omega arith) r refl ch

  -- each address ends one run at most
  pub runs_by_le : (cs : List ℕ) (s : ℕ) → length (runs_by f n s cs) ≤ length cs + 1
  unfolding runs_by
  runs_by_le [] s = omega arith
  runs_by_le (c ∷ cs) s =
      ⊎_elim
      (λ (t : ends f n s c ≡ true). rw t (omega (arith, runs_by_le cs c)))
      (λ (t : ends f n s c ≡ false). rw t (omega (arith, runs_by_le cs s)))
      (way (ends f n s c))

-- the plain scan changes at the boundaries of its routes only

-- addresses that every route matches alike have one port
scan_same : (w : ℕ) (R : ℕ → Route) (n a b : ℕ) → ((i : ℕ) → i < n → route_matches w a (R i) ≡ route_matches w b (R i))
    → scan_of w R n a ≡ scan_of w R n b
scan_same w R n a b h =
    plain_scan_map (route_matches w a) (λ r. r.len) (λ r. r.port) (route_matches w b) (λ r. r.len) (λ r. r.port) (λ (r : Route). r)
    (list_of R n 0)
    (λ x m.
    let s = mem_list_of R n 0 x m in
    record { matched = rw s.is (h s.at (omega arith)); long = refl; ported = refl })
    ∙ ap (plain_scan (route_matches w b) (λ r. r.len) (λ r. r.port)) (map_list_of (λ (r : Route). r) R n 0)

module _ (w : ℕ) (R : ℕ → Route) where
  pub length_boundaries : (n : ℕ) → length (boundaries w R n) ≡ 2 * n
  unfolding boundaries
  length_boundaries zero = refl
  length_boundaries (suc n) =
      let e : ℕ = last w (R n).value (R n).len + 1 in
      omega (
        arith,
        length_insert (first w (R n).value (R n).len) (insert e (boundaries w R n)),
        length_insert e (boundaries w R n),
        length_boundaries n,
      )

  pub rising_boundaries : (n : ℕ) → Rising 0 (boundaries w R n)
  unfolding boundaries
  rising_boundaries zero = tt
  rising_boundaries (suc n) =
      rising_insert 0 (first w (R n).value (R n).len) _ (omega arith)
      (rising_insert 0 (last w (R n).value (R n).len + 1) (boundaries w R n) (omega arith) (rising_boundaries n))

  routes_same : (n x : ℕ) → among x (boundaries w R n) ≡ false → (i : ℕ) → i < n → route_matches w x (R i) ≡ route_matches w (x - 1) (R i)
  unfolding boundaries
  routes_same zero x t i h = absurd (omega arith)
  routes_same (suc n) x t i h =
      let e : ℕ = last w (R n).value (R n).len + 1 in
      let a = among_insert x (first w (R n).value (R n).len) (insert e (boundaries w R n)) t in
      let b = among_insert x e (boundaries w R n) a.1 in
      ⊎_elim
      (λ (u : eqb i n ≡ true).
      rw (eqb-true i n u)
      (matches_same w (R n).value (R n).len x (eqb-false x (first w (R n).value (R n).len) a.0) (eqb-false x e b.0)))
      (λ (u : eqb i n ≡ false).
      let ne : (i ≡ n → ⊥) = eqb-false i n u in routes_same n x b.1 i (omega arith))
      (way (eqb i n))

  pub scan_changes : (n m : ℕ) → Changes (scan_of w R n) m 0 (boundaries w R n)
  scan_changes n m x u v t = scan_same w R n x (x - 1) (routes_same n x t)
