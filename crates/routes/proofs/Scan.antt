-- The plain scan takes the last match of a valid list: RULES, "The plain scan". Assumes nothing.
use mathlib.Core.Path.{◌≡◌, refl, sym, ap, ap₂, ◌∙◌}
use mathlib.Core.Logic.{⊎_elim}
use mathlib.Core.Bool.{Bool, true, false, cond, ◌&&◌}
use mathlib.Core.List.{List, [], ◌∷◌, ◌++◌, Memᴰ}
use Prim.Native.Nat.{ℕ, zero, suc, ◌+◌, ◌≤◌, ◌<◌}
use native.Mathlib.Omega.{arith}
use native.Mathlib.Nat.{zero-add}
use native.Mathlib.Numerals.{add-one}
use lib.Dec.{leb}
use borrow.Author.Tests.{le-leb, lt-leb, eq-eqb, ne_eqb}
use Rattle.lists.proofs.Tests.{way}
use Rattle.trie.specs.Scan.{longest, plain_scan}
use Rattle.refusals.specs.Refusals.{accepted, and_then}
use Rattle.routes.specs.Bounds.{last_port}
use Rattle.routes.specs.Routes.{route_at, route_count, ValidList, Words}
use Rattle.lists.specs.Numbered.{list_of}
use Rattle.routes.specs.Check.{list_check}
use Rattle.routes.specs.Scan.{route_matches, scan_of, last_match, list_scan}
use Rattle.routes.specs.Theorems.{ScanIsLast}
use Rattle.refusals.specs.declared.Answer.{Answer}
use Rattle.routes.specs.declared.Route.{Route}
use Rattle.routes.proofs.Check.{accepted_valid}
use Rattle.lists.proofs.Numbered.{list_of_snoc, mem_list_of}
use Rattle.routes.proofs.Rising.{match_longer}

-- one route more at the end of any list of routes
module _ {X : Type 0} (match : X → Bool) (len port : X → ℕ) (z : X) where
  -- it does not match
  longest_snoc_other : (xs : List X) → match z ≡ false → longest match len port (xs ++ (z ∷ [])) ≡ longest match len port xs
  unfolding longest
  longest_snoc_other [] e = rw e
  longest_snoc_other (x ∷ xs) e = rw (longest_snoc_other xs e)

  pub plain_scan_snoc_other : (xs : List X) → match z ≡ false → plain_scan match len port (xs ++ (z ∷ [])) ≡ plain_scan match len port xs
  unfolding plain_scan
  plain_scan_snoc_other [] e = rw e
  plain_scan_snoc_other (x ∷ xs) e = rw (longest_snoc_other xs e, plain_scan_snoc_other xs e)

  -- it matches, and none before it that matches is longer
  abbrev NoneLonger : List X → Type 0
  NoneLonger xs = (x : X) → Memᴰ x xs → match x ≡ true → len x ≤ len z

  -- then those before it are not taken
  passed : (x : X) → (match x ≡ true → len x ≤ len z) → (match x && leb (len z + 1) (len x)) ≡ false
  passed x h =
      ⊎_elim
      (λ (t : match x ≡ true). rw t (lt-leb (len z + 1) (len x) (omega (arith, h t))))
      (λ (t : match x ≡ false). rw t)
      (way (match x))

  longest_snoc_match : (xs : List X) → match z ≡ true → NoneLonger xs → longest match len port (xs ++ (z ∷ [])) ≡ len z + 1
  unfolding longest
  longest_snoc_match [] e h = rw (e, le-leb 0 (len z) (omega arith))
  longest_snoc_match (x ∷ xs) e h =
      rw (longest_snoc_match xs e (λ y m. h y (Memᴰ.tail m)), passed x (h x (Memᴰ.head refl)))

  pub plain_scan_snoc_match : (xs : List X) → match z ≡ true → NoneLonger xs → plain_scan match len port (xs ++ (z ∷ [])) ≡ port z
  unfolding plain_scan longest
  plain_scan_snoc_match [] e h = rw (e, le-leb 0 (len z) (omega arith))
  plain_scan_snoc_match (x ∷ xs) e h =
      rw (longest_snoc_match xs e (λ y m. h y (Memᴰ.tail m)), passed x (h x (Memᴰ.head refl)))
      (plain_scan_snoc_match xs e (λ y m. h y (Memᴰ.tail m)))

-- one route more of a valid list
pub scan_of_suc : (w : ℕ) (R : ℕ → Route) (n a k : ℕ) → ValidList w R n → k < n
    → scan_of w R (suc k) a ≡ cond (route_matches w a (R k)) (R k).port (scan_of w R k a)
scan_of_suc w R n a k ok h =
    ap (plain_scan (route_matches w a) (λ r. r.len) (λ r. r.port))
    (list_of_snoc R k 0 ∙ ap (λ (j : ℕ). list_of R k 0 ++ (R j ∷ [])) (zero-add k))
    ∙ ⊎_elim
    (λ (t : route_matches w a (R k) ≡ true).
    plain_scan_snoc_match (route_matches w a) (λ r. r.len) (λ r. r.port) (R k) (list_of R k 0) t (none_longer t)
    ∙ sym (ap (λ (b : Bool). cond b (R k).port (scan_of w R k a)) t))
    (λ (t : route_matches w a (R k) ≡ false).
    plain_scan_snoc_other (route_matches w a) (λ r. r.len) (λ r. r.port) (R k) (list_of R k 0) t
    ∙ sym (ap (λ (b : Bool). cond b (R k).port (scan_of w R k a)) t))
    (way (route_matches w a (R k)))
  where
    none_longer : route_matches w a (R k) ≡ true → (x : Route) → Memᴰ x (list_of R k 0) → route_matches w a x ≡ true → x.len ≤ (R k).len
    none_longer t x m u =
        let s = mem_list_of R k 0 x m in
        let e = ap (λ (r : Route). r.len) s.is in
        omega (arith, e, match_longer w R n ok s.at k a (omega arith) h (rw s.is at u) t)

-- of its first routes too
pub scan_of_last : (w : ℕ) (R : ℕ → Route) (n a : ℕ) → ValidList w R n → (k : ℕ) → k ≤ n → scan_of w R k a ≡ last_match w R k a
unfolding last_match list_of plain_scan
scan_of_last w R n a ok zero h = refl
scan_of_last w R n a ok (suc k) h =
    scan_of_suc w R n a k ok (omega arith)
    ∙ ap (λ (p : ℕ). cond (route_matches w a (R k)) (R k).port p) (scan_of_last w R n a ok k (omega arith))

pub scan_is_last : ScanIsLast
scan_is_last w R n a ok = scan_of_last w R n a ok n (omega arith)

-- no port is above 4094
pub last_match_le : (w : ℕ) (R : ℕ → Route) (n : ℕ) → ValidList w R n → (a k : ℕ) → k ≤ n → last_match w R k a ≤ last_port
unfolding last_match
last_match_le w R n ok a zero h = omega arith
last_match_le w R n ok a (suc k) h = by (route_matches w a (R k)) (last_match_le w R n ok a k (omega arith))
  where
    by : (b : Bool) → last_match w R k a ≤ last_port → cond b (R k).port (last_match w R k a) ≤ last_port
    by true l = (ok.each k (omega arith)).most
    by false l = l

pub scan_le : (w : ℕ) (R : ℕ → Route) (n : ℕ) → ValidList w R n → (a : ℕ) → scan_of w R n a ≤ last_port
scan_le w R n ok a = rw (scan_is_last w R n a ok) (last_match_le w R n ok a n (omega arith))

-- the addresses that the first k routes match alike have one last match
pub last_match_alike : (w : ℕ) (R : ℕ → Route) (k a b : ℕ) → ((i : ℕ) → i < k → route_matches w a (R i) ≡ route_matches w b (R i))
    → last_match w R k a ≡ last_match w R k b
unfolding last_match
last_match_alike w R zero a b h = refl
last_match_alike w R (suc k) a b h =
    ap₂ (λ (t : Bool) (p : ℕ). cond t (R k).port p) (h k (omega arith)) (last_match_alike w R k a b (λ i l. h i (omega arith)))

-- the scan of a list as the code goes: one match more, and the answers
pub last_match_more : (w : ℕ) (R : ℕ → Route) (i a port next : ℕ) (r : Route) → r ≡ R i → port ≡ last_match w R i a
    → next ≡ cond (route_matches w a r) r.port port → next ≡ last_match w R (i + 1) a
unfolding last_match
last_match_more w R i a port next r read is e =
    e ∙ ap (λ (x : Route). cond (route_matches w a x) x.port port) read
    ∙ rw (add-one i) (ap (λ (p : ℕ). cond (route_matches w a (R i)) (R i).port p) is)

module _ (w : ℕ) (words : List ℕ) (a : ℕ) (checked : Answer) (is : checked ≡ list_check w words) where
  pub list_scan_refused : (checked.number ≡ 0 → ⊥) → checked ≡ list_scan w words a
  unfolding list_scan
  list_scan_refused n =
      sym (ap (λ (c : Answer). and_then c (accepted (scan_of w (route_at words) (route_count words) a))) (sym is) ∙ rw (ne_eqb checked.number 0 n))

  pub list_scan_accepted : checked.number ≡ 0 → Words w words → (port : ℕ) → port ≡ last_match w (route_at words) (route_count words) a
      → accepted port ≡ list_scan w words a
  unfolding list_scan
  list_scan_accepted z fits port e =
      let ok = accepted_valid w words fits (ap (λ (c : Answer). c.number) (sym is) ∙ z) in
      ap accepted (e ∙ sym (scan_is_last w (route_at words) (route_count words) a ok))
      ∙ sym (ap (λ (c : Answer). and_then c (accepted (scan_of w (route_at words) (route_count words) a))) (sym is) ∙ rw (eq-eqb checked.number 0 z))
