-- The check of a file refuses exactly in the listed cases: RULES, "Order of the checks". Assumes nothing.
use mathlib.Core.Path.{◌≡◌, refl, sym, ap, ◌∙◌}
use mathlib.Core.Logic.{◌⊎◌, inl, inr, ⊎_elim}
use mathlib.Core.Bool.{Bool, true, false}
use mathlib.Core.List.{List}
use Prim.Native.Nat.{ℕ, zero, suc, ◌+◌, ◌-◌, ◌≤◌, ◌<◌}
use native.Mathlib.Omega.{arith}
use native.Mathlib.Nat.{sub-zero}
use lib.Dec.{eqb, leb, ltb}
use lib.ListN.{length, get_or}
use borrow.Author.Count.{below_none, below_more}
use borrow.Author.Tests.{eq-eqb, ne_eqb, eqb-true, eqb-false, le-leb, lt-leb, leb-true, lt-ltb, le-ltb, ltb-true, ltb-false}
use Rattle.lists.proofs.Tests.{way}
use Rattle.refusals.specs.Refusals.{short_file, wrong_version, wrong_size, spare_bits, too_many_routes, refused, accepted, unless}
use Rattle.refusals.specs.declared.Answer.{Answer}
use Rattle.routes.proofs.Faults.{unless_none}
use Rattle.routes.proofs.First.{NoneBelow}
use Rattle.file_rules.specs.File.{version, head_size, stated_size, place_of}
use Rattle.file_rules.specs.Check.{head_fault, file_fault, check_from, file_check, Headed, FirstRoute, Whole}
use Rattle.file_rules.specs.Theorems.{FileUnheaded, FileRefused, FileDone, FileHeaded}
use Rattle.file_rules.proofs.Sound.{place_more, place_begun, fault_none, fault_range}

abbrev number_of : Answer → ℕ
number_of a = a.number

-- the head

pub headed_fault : (file : List ℕ) → Headed file → head_fault file ≡ 0
unfolding head_fault
headed_fault file h =
    rw (le-leb head_size (length file) h.long, eq-eqb (get_or file 0 0) version h.versioned, eq-eqb (stated_size file) (length file - head_size) h.sized)

pub fault_headed : (file : List ℕ) → head_fault file ≡ 0 → Headed file
unfolding head_fault
fault_headed file e =
    let a = unless_none (leb head_size (length file)) 0 _ e in
    let b = unless_none (eqb (get_or file 0 0) version) 1 _ a.1 in
    let c = unless_none (eqb (stated_size file) (length file - head_size)) 2 0 b.1 in
    record {
      long = leb-true head_size (length file) a.0;
      versioned = eqb-true (get_or file 0 0) version b.0;
      sized = eqb-true (stated_size file) (length file - head_size) c.0;
    }

pub check_headed : (w : ℕ) (file : List ℕ) → head_fault file ≡ 0 → file_check w file ≡ check_from w file (length file - head_size) 0
unfolding file_check
check_headed w file e = rw e

pub check_unheaded : (w : ℕ) (file : List ℕ) → (head_fault file ≡ 0 → ⊥) → file_check w file ≡ refused (head_fault file) 0
unfolding file_check
check_unheaded w file n = rw (ne_eqb (head_fault file) 0 n)

pub file_unheaded : FileUnheaded
unfolding file_check head_fault
file_unheaded w file = (
  λ short. rw (lt-leb head_size (length file) short),
  λ long other. rw (le-leb head_size (length file) long, ne_eqb (get_or file 0 0) version other),
  λ long one differs.
      rw (le-leb head_size (length file) long, eq-eqb (get_or file 0 0) version one, ne_eqb (stated_size file) (length file - head_size) differs),
)

-- one turn at route i

module _ (w : ℕ) (file : List ℕ) (i : ℕ) where
  fuel : place_of file i < length file → length file - head_size - i ≡ suc (length file - head_size - (i + 1))
  fuel h = omega (arith, place_begun file i)

  pub check_more : place_of file i < length file → file_fault w file i ≡ 0
      → check_from w file (length file - head_size - i) i ≡ check_from w file (length file - head_size - (i + 1)) (i + 1)
  unfolding check_from
  check_more h e = rw (fuel h, lt-ltb (place_of file i) (length file) h, e)

  pub check_here : place_of file i < length file → (file_fault w file i ≡ 0 → ⊥)
      → check_from w file (length file - head_size - i) i ≡ refused (file_fault w file i) (place_of file i)
  unfolding check_from
  check_here h n = rw (fuel h, lt-ltb (place_of file i) (length file) h, ne_eqb (file_fault w file i) 0 n)

pub check_end : (w : ℕ) (file : List ℕ) (k i : ℕ) → length file ≤ place_of file i → check_from w file k i ≡ accepted i
unfolding check_from
check_end w file zero i h = refl
check_end w file (suc k) i h = rw (le-ltb (place_of file i) (length file) h)

-- where the first i routes have no fault, the check goes on at route i
pub check_from_lem : (w : ℕ) (file : List ℕ) (i : ℕ) → NoneBelow (file_fault w file) i
    → check_from w file (length file - head_size) 0 ≡ check_from w file (length file - head_size - i) i
check_from_lem w file zero none = rw (sub-zero (length file - head_size))
check_from_lem w file (suc i) none =
    let p : i + 1 ≡ suc i = omega arith in
    let e = none i (omega arith) in
    let ok = (fault_none w file i e).entire in
    check_from_lem w file i (λ j h. none j (omega arith)) ∙ rw p at (check_more w file i (omega (arith, ok.uncut)) e)

-- what the check finds

pub check_whole : (w : ℕ) (file : List ℕ) (n : ℕ) → Whole w file n → file_check w file ≡ accepted n
check_whole w file n ok =
    check_headed w file (headed_fault file ok.headed) ∙ check_from_lem w file n ok.none
    ∙ check_end w file (length file - head_size - n) n (omega (arith, ok.end))

pub check_first : (w : ℕ) (file : List ℕ) (m p : ℕ) → Headed file → (m ≡ 0 → ⊥) → FirstRoute w file m p → file_check w file ≡ refused m p
check_first w file m p headed wrong r =
    check_headed w file (headed_fault file headed) ∙ check_from_lem w file r.number r.none
    ∙ check_here w file r.number (omega (arith, r.place, r.within)) (λ z. wrong (sym r.here ∙ z))
    ∙ ap (λ (x : ℕ). refused x (place_of file r.number)) r.here ∙ ap (refused m) r.place

-- a headed file is whole, or some route of it is the first at fault
abbrev Walked : ℕ → List ℕ → Type 0
Walked w file = ((n : ℕ) × Whole w file n) ⊎ ((m : ℕ) × (p : ℕ) × (m ≡ 0 → ⊥) × FirstRoute w file m p)

walked_from : (w : ℕ) (file : List ℕ) → Headed file → (k i : ℕ) → NoneBelow (file_fault w file) i
    → place_of file i ≤ length file → length file ≤ place_of file i + k → Walked w file
walked_from w file headed zero i none begun left = inl (i, record { headed = headed; none = none; end = omega arith })
walked_from w file headed (suc k) i none begun left =
    ⊎_elim
    (λ (t : ltb (place_of file i) (length file) ≡ true).
    ⊎_elim
    (λ (u : eqb (file_fault w file i) 0 ≡ true).
    let e = eqb-true (file_fault w file i) 0 u in
    let next = place_more file i in
    walked_from w file headed k (i + 1) (below_more (λ j. file_fault w file j ≡ 0) i none e)
    (omega (arith, next, (fault_none w file i e).entire.uncut)) (omega (arith, next)))
    (λ (u : eqb (file_fault w file i) 0 ≡ false).
    inr (
      file_fault w file i,
      place_of file i,
      eqb-false (file_fault w file i) 0 u,
      record { number = i; place = refl; within = ltb-true (place_of file i) (length file) t; here = refl; none = none },
    ))
    (way (eqb (file_fault w file i) 0)))
    (λ (t : ltb (place_of file i) (length file) ≡ false).
    inl (i, record { headed = headed; none = none; end = omega (arith, ltb-false (place_of file i) (length file) t) }))
    (way (ltb (place_of file i) (length file)))

walked : (w : ℕ) (file : List ℕ) → Headed file → Walked w file
unfolding place_of
walked w file headed =
    walked_from w file headed (length file) 0 (below_none (λ j. file_fault w file j ≡ 0)) headed.long (omega arith)

-- what the check answers says what the file is

pub accepted_headed : (w : ℕ) (file : List ℕ) → (file_check w file).number ≡ 0 → Headed file
accepted_headed w file e =
    ⊎_elim
    (λ (t : eqb (head_fault file) 0 ≡ true). fault_headed file (eqb-true (head_fault file) 0 t))
    (λ (t : eqb (head_fault file) 0 ≡ false).
    let n = eqb-false (head_fault file) 0 t in absurd (n (sym (ap number_of (check_unheaded w file n)) ∙ e)))
    (way (eqb (head_fault file) 0))

pub accepted_whole : (w : ℕ) (file : List ℕ) → (file_check w file).number ≡ 0 → Whole w file (file_check w file).count
accepted_whole w file e = go (walked w file (accepted_headed w file e))
  where
    go : Walked w file → Whole w file (file_check w file).count
    go (inl x) = rw (ap (λ (a : Answer). a.count) (check_whole w file x.0 x.1)) x.1
    go (inr x) =
        absurd (x.2 (sym (ap number_of (check_first w file x.0 x.1 (accepted_headed w file e) x.2 x.3)) ∙ e))

pub file_done : FileDone
file_done w file n = (
  λ e. rw (ap (λ (a : Answer). a.count) e) at (accepted_whole w file (ap number_of e)),
  check_whole w file n,
)

pub file_refused : FileRefused
file_refused w file m p headed wrong = (λ e. go e (walked w file headed), check_first w file m p headed wrong)
  where
    go : file_check w file ≡ refused m p → Walked w file → FirstRoute w file m p
    go e (inl x) = absurd (wrong (ap number_of (sym e ∙ check_whole w file x.0 x.1)))
    go e (inr x) =
        let q : refused x.0 x.1 ≡ refused m p = sym (check_first w file x.0 x.1 headed x.2 x.3) ∙ e in
        rw (ap number_of q, ap (λ (a : Answer). a.place) q) at x.3

pub file_headed : FileHeaded
file_headed w file headed = go (walked w file headed)
  where
    go : Walked w file
        → ((file_check w file).number ≡ 0)
        ⊎ ((wrong_size ≤ (file_check w file).number) × ((file_check w file).number ≤ too_many_routes)
        × (head_size ≤ (file_check w file).place) × ((file_check w file).place < length file))
    go (inl x) = inl (ap number_of (check_whole w file x.0 x.1))
    go (inr x) =
        let r = x.3 in
        let e = check_first w file x.0 x.1 headed x.2 r in
        let low = place_begun file r.number in
        ⊎_elim
        (λ (z : file_fault w file r.number ≡ 0). absurd (x.2 (sym r.here ∙ z)))
        (λ b. inr (rw e (omega (arith, b.low, r.here), omega (arith, b.high, r.here), omega (arith, low, r.place), r.within)))
        (fault_range w file r.number)

-- no file is refused 5

head_fault_small : (file : List ℕ) → head_fault file ≤ wrong_size
unfolding head_fault
head_fault_small file = go (leb head_size (length file)) (eqb (get_or file 0 0) version) (eqb (stated_size file) (length file - head_size))
  where
    go : (a b c : Bool) → unless a short_file (unless b wrong_version (unless c wrong_size 0)) ≤ wrong_size
    go true true true = omega arith
    go true true false = omega arith
    go true false c = omega arith
    go false b c = omega arith

headed_never_spare : (w : ℕ) (file : List ℕ) → Headed file → (file_check w file).number ≡ spare_bits → ⊥
headed_never_spare w file headed e = go (walked w file headed)
  where
    go : Walked w file → ⊥
    go (inl x) = omega (arith, e, ap number_of (check_whole w file x.0 x.1))
    go (inr x) =
        let r = x.3 in
        let m : file_fault w file r.number ≡ spare_bits =
        r.here ∙ sym (ap number_of (check_first w file x.0 x.1 headed x.2 r)) ∙ e in
        ⊎_elim (λ (z : file_fault w file r.number ≡ 0). x.2 (sym r.here ∙ z)) (λ b. b.other m) (fault_range w file r.number)

pub check_never_spare : (w : ℕ) (file : List ℕ) → (file_check w file).number ≡ spare_bits → ⊥
check_never_spare w file e =
    ⊎_elim
    (λ (t : eqb (head_fault file) 0 ≡ true). headed_never_spare w file (fault_headed file (eqb-true (head_fault file) 0 t)) e)
    (λ (t : eqb (head_fault file) 0 ≡ false).
    omega (arith, e, ap number_of (check_unheaded w file (eqb-false (head_fault file) 0 t)), head_fault_small file))
    (way (eqb (head_fault file) 0))
