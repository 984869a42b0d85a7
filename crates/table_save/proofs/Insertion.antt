-- A route put into its place among routes that ascend, in the words of a list. Assumes nothing.
use mathlib.Core.Path.{◌≡◌, refl, sym, ap, ap₂, ◌∙◌, subst}
use mathlib.Core.Bool.{Bool, true, false, cond}
use mathlib.Core.List.Memᴰ
use mathlib.Core.List.{List, [], ◌∷◌, ◌++◌, append_assoc, Memᴰ}
use Prim.Native.Nat.{ℕ, zero, suc, ◌+◌, ◌-◌, ◌*◌, ◌<◌, ◌≤◌}
use native.Mathlib.Omega.{arith}
use native.Mathlib.Nat.{add-zero}
use lib.ListN.{length, get_or, take, drop, length-append, take-append-drop}
use lib.Seq.{sets, sets-eq, take-suc, take-length, length-take-le}
use borrow.Author.Tests.{le-leb, lt-leb}
use Rattle.bits.proofs.Order.{ordered}
use Rattle.routes.specs.Routes.{route, route_at, route_words, words_of, store_route}
use Rattle.routes.specs.declared.Route.{Route}
use Rattle.table_rules.specs.Save.{insert_route}
use Rattle.table_rules.specs.Ascending.{Ascending}
use Rattle.table_rules.proofs.Ascending.{ascending_front, insert_after, insert_among, length_insert}
use Rattle.routes.proofs.Words.{length_words, words_append, get_words, store_words}
use Rattle.list_insert.specs.Insertion.{route_before, sunk, risen, all_before, placed}

-- the words of routes, one after the other, among other words
apart : (P Q : List ℕ) (A C : List Route) → P ++ (words_of (A ++ C) ++ Q) ≡ P ++ words_of A ++ (words_of C ++ Q)
apart P Q A C =
    ap (λ (ws : List ℕ). P ++ (ws ++ Q)) (words_append A C)
    ∙ ap (λ (ws : List ℕ). P ++ ws) (append_assoc (words_of A) (words_of C) Q)
    ∙ sym (append_assoc P (words_of A) (words_of C ++ Q))

module _ (P Q : List ℕ) (at : ℕ) (isP : length P ≡ at * 3) (q : Route) (B : List Route) (rises : Ascending B) where
  -- the words where m routes stand, then a route whose place is free, then those that moved up
  abbrev words : ℕ → Route → List Route → List ℕ
  words m h C = P ++ (words_of (take m B ++ (h ∷ C)) ++ Q)

  abbrev last : ℕ → Route
  last m = get_or B m (route 0 0 0)

  length_front : (m : ℕ) → m ≤ length B → length (P ++ words_of (take m B)) ≡ (at + m) * 3
  length_front m h =
      length-append P (words_of (take m B)) ∙ omega (arith, isP, length_words (take m B), length-take-le m B h)

  -- one route more
  front_suc : (m : ℕ) (C : List Route) → m < length B → take (suc m) B ++ C ≡ take m B ++ (last m ∷ C)
  front_suc m C h =
      ap (λ (A : List Route). A ++ C) (take-suc B m (route 0 0 0) h) ∙ append_assoc (take m B) (last m ∷ []) C

  put_free : (m : ℕ) (h x : Route) (C : List Route) → m ≤ length B → store_route (words m h C) (at + m) x ≡ words m x C
  put_free m h x C l =
      ap (λ (ws : List ℕ). store_route ws (at + m) x) (apart P Q (take m B) (h ∷ C))
      ∙ store_words (P ++ words_of (take m B)) (words_of C ++ Q) (at + m) (length_front m l) h x
      ∙ sym (apart P Q (take m B) (x ∷ C))

  get_last : (m : ℕ) (h : Route) (C : List Route) → m < length B → route_at (words (suc m) h C) (at + m) ≡ last m
  get_last m h C l =
      ap (λ (A : List Route). route_at (P ++ (words_of A ++ Q)) (at + m)) (front_suc m (h ∷ C) l)
      ∙ ap (λ (ws : List ℕ). route_at ws (at + m)) (apart P Q (take m B) (last m ∷ h ∷ C))
      ∙ get_words (P ++ words_of (take m B)) (words_of (h ∷ C) ++ Q) (at + m) (length_front m (omega arith)) (last m)

  -- the route's place among m of them
  abbrev Sinks : ℕ → Type 0
  Sinks m = (h : Route) (C : List Route) → m ≤ length B → sunk (words m h C) at m q ≡ P ++ (words_of (insert_route q (take m B) ++ C) ++ Q)

  -- the last of them stands before it, or does not
  module _ (m : ℕ) (h : Route) (C : List Route) (l : suc m ≤ length B) where
    abbrev all : List Route
    all = take m B ++ (last m ∷ [])

    is_all : take (suc m) B ≡ all
    is_all = take-suc B m (route 0 0 0) l

    all_rise : Ascending all
    all_rise =
        subst Ascending is_all (ascending_front (take (suc m) B) (drop (suc m) B) (subst Ascending (sym (take-append-drop (suc m) B)) rises))

    sinks_here : route_before (last m) q ≡ true
        → store_route (words (suc m) h C) (at + suc m) q ≡ P ++ (words_of (insert_route q (take (suc m) B) ++ C) ++ Q)
    sinks_here t =
        put_free (suc m) h q C l
        ∙ ap (λ (A : List Route). P ++ (words_of A ++ Q))
        (ap (λ (A : List Route). A ++ (q ∷ C)) is_all
        ∙ sym (append_assoc all (q ∷ []) C)
        ∙ ap (λ (A : List Route). A ++ C) (sym (insert_after q (last m) (take m B) all_rise t) ∙ ap (insert_route q) (sym is_all)))

    sinks_on : Sinks m → route_before (last m) q ≡ false
        → sunk (store_route (words (suc m) h C) (at + suc m) (last m)) at m q ≡ P ++ (words_of (insert_route q (take (suc m) B) ++ C) ++ Q)
    sinks_on ih t =
        ap (λ (ws : List ℕ). sunk ws at m q)
        (put_free (suc m) h (last m) C l ∙ ap (λ (A : List Route). P ++ (words_of A ++ Q)) (front_suc m (last m ∷ C) l))
        ∙ ih (last m) (last m ∷ C) (omega arith)
        ∙ ap (λ (A : List Route). P ++ (words_of A ++ Q))
        (sym (append_assoc (insert_route q (take m B)) (last m ∷ []) C)
        ∙ ap (λ (A : List Route). A ++ C) (sym (insert_among q (last m) (take m B) t) ∙ ap (insert_route q) (sym is_all)))

    sinks_more : Sinks m → sunk (words (suc m) h C) at (suc m) q ≡ P ++ (words_of (insert_route q (take (suc m) B) ++ C) ++ Q)
    unfolding sunk
    sinks_more ih =
        ap (λ (r : Route). cond (route_before r q) (store_route (words (suc m) h C) (at + suc m) q) (sunk (store_route (words (suc m) h C) (at + suc m) r) at m q))
        (get_last m h C l)
        ∙ go (route_before (last m) q) refl
      where
        go : (b : Bool) → route_before (last m) q ≡ b
            → cond b (store_route (words (suc m) h C) (at + suc m) q) (sunk (store_route (words (suc m) h C) (at + suc m) (last m)) at m q)
            ≡ P ++ (words_of (insert_route q (take (suc m) B) ++ C) ++ Q)
        go true t = sinks_here t
        go false t = sinks_on ih t

  sinks : (m : ℕ) → Sinks m
  unfolding sunk insert_route
  sinks zero h C l = ap (λ (i : ℕ). store_route (words 0 h C) i q) (sym (add-zero at)) ∙ put_free 0 h q C l
  sinks (suc m) h C l = sinks_more m h C l (sinks m)

-- the place of q is past routes that ascend and whose last stands before it
insert_past : (q z : Route) (xs rs : List Route) → Ascending (xs ++ (z ∷ [])) → route_before z q ≡ true
    → insert_route q (xs ++ (z ∷ []) ++ rs) ≡ xs ++ (z ∷ []) ++ insert_route q rs
unfolding insert_route
insert_past q z [] rs h k = rw k refl
insert_past q z (x ∷ xs) rs h k =
    let b : route_before x q ≡ true =
    ordered.transitive x.value x.len z.value z.len q.value q.len (h.0 z (Memᴰ.append_right xs (Memᴰ.head refl))) k in
    rw b (ap (λ (l : List Route). x ∷ l) (insert_past q z xs rs h.1 k))

-- and within routes whose last does not
insert_within : (q z : Route) (xs rs : List Route) → route_before z q ≡ false
    → insert_route q (xs ++ (z ∷ []) ++ rs) ≡ insert_route q (xs ++ (z ∷ [])) ++ rs
unfolding insert_route
insert_within q z [] rs k = rw k refl
insert_within q z (x ∷ xs) rs k = go (route_before x q) (insert_within q z xs rs k)
  where
    go : (b : Bool) → insert_route q (xs ++ (z ∷ []) ++ rs) ≡ insert_route q (xs ++ (z ∷ [])) ++ rs
        → cond b (x ∷ insert_route q (xs ++ (z ∷ []) ++ rs)) (q ∷ x ∷ (xs ++ (z ∷ []) ++ rs))
        ≡ cond b (x ∷ insert_route q (xs ++ (z ∷ []))) (q ∷ x ∷ (xs ++ (z ∷ []))) ++ rs
    go true ih = ap (λ (l : List Route). x ∷ l) ih
    go false ih = refl

-- q put among routes after a free place
rises_to : (Q : List ℕ) (q : Route) (R : List Route) (P : List ℕ) (at : ℕ) → length P ≡ at * 3 → (h : Route)
    → risen (P ++ (words_of (h ∷ R) ++ Q)) at (length R) q ≡ P ++ (words_of (insert_route q R) ++ Q)
unfolding risen insert_route
rises_to Q q [] P at isP h = store_words P Q at isP h q
rises_to Q q (r ∷ R) P at isP h =
    ap (λ (x : Route). cond (route_before x q) (risen (store_route words' at x) (at + 1) (length R) q) (store_route words' at q))
    (ap (λ (ws : List ℕ). route_at ws (at + 1)) (sym (append_assoc P (route_words h) (route_words r ++ (words_of R ++ Q))))
    ∙ get_words (P ++ route_words h) (words_of R ++ Q) (at + 1) (length_more h) r)
    ∙ go (route_before r q) (rises_to Q q R (P ++ route_words r) (at + 1) (length_more r) r)
  where
    words' : List ℕ
    words' = P ++ (words_of (h ∷ r ∷ R) ++ Q)

    length_more : (x : Route) → length (P ++ route_words x) ≡ (at + 1) * 3
    length_more x = length-append P (route_words x) ∙ omega (arith, isP)

    go : (b : Bool)
        → risen (P ++ route_words r ++ (words_of (r ∷ R) ++ Q)) (at + 1) (length R) q ≡ P ++ route_words r ++ (words_of (insert_route q R) ++ Q)
        → cond b (risen (store_route words' at r) (at + 1) (length R) q) (store_route words' at q)
        ≡ P ++ (words_of (cond b (r ∷ insert_route q R) (q ∷ r ∷ R)) ++ Q)
    go true ih =
        ap (λ (ws : List ℕ). risen ws (at + 1) (length R) q)
        (store_words P (words_of (r ∷ R) ++ Q) at isP h r ∙ sym (append_assoc P (route_words r) (words_of (r ∷ R) ++ Q)))
        ∙ ih ∙ append_assoc P (route_words r) (words_of (insert_route q R) ++ Q)
    go false ih = store_words P (words_of (r ∷ R) ++ Q) at isP h q

-- q put among the routes L and R, with a free place between them
module _ (P Q : List ℕ) (at : ℕ) (isP : length P ≡ at * 3) (q h : Route) (L R : List Route) (rises : Ascending L) where
  abbrev low : List ℕ
  low = P ++ (words_of (L ++ (h ∷ R)) ++ Q)

  to_right : insert_route q (L ++ R) ≡ L ++ insert_route q R → risen low (at + length L) (length R) q ≡ P ++ (words_of (insert_route q (L ++ R)) ++ Q)
  to_right e =
      ap (λ (ws : List ℕ). risen ws (at + length L) (length R) q) (apart P Q L (h ∷ R))
      ∙ rises_to Q q R (P ++ words_of L) (at + length L) (length-append P (words_of L) ∙ omega (arith, isP, length_words L)) h
      ∙ sym (apart P Q L (insert_route q R))
      ∙ ap (λ (A : List Route). P ++ (words_of A ++ Q)) (sym e)

  to_left : insert_route q (L ++ R) ≡ insert_route q L ++ R → sunk low at (length L) q ≡ P ++ (words_of (insert_route q (L ++ R)) ++ Q)
  to_left e =
      ap (λ (A : List Route). sunk (P ++ (words_of (A ++ (h ∷ R)) ++ Q)) at (length L) q) (sym (take-length L))
      ∙ sinks P Q at isP q L rises (length L) h R (omega arith)
      ∙ ap (λ (A : List Route). P ++ (words_of (insert_route q A ++ R) ++ Q)) (take-length L)
      ∙ ap (λ (A : List Route). P ++ (words_of A ++ Q)) (sym e)

  -- what either way leaves
  abbrev Goal : Bool → Type 0
  Goal b = cond b (risen low (at + length L) (length R) q) (sunk low at (length L) q) ≡ P ++ (words_of (insert_route q (L ++ R)) ++ Q)

  places : placed low at (at + length L) (at + length L + 1 + length R) q ≡ P ++ (words_of (insert_route q (L ++ R)) ++ Q)
  unfolding placed
  places =
      let k : at + length L + 1 + length R - (at + length L + 1) ≡ length R = omega arith in
      let l : at + length L - at ≡ length L = omega arith in
      rw (k, l) (by_size (length L) refl)
    where
      by_size : (m : ℕ) → length L ≡ m → Goal (all_before low at (at + length L) q)
      by_size zero e =
          rw (le-leb (at + length L) at (omega arith)) (to_right (none L e))
        where
          none : (L : List Route) → length L ≡ 0 → insert_route q (L ++ R) ≡ L ++ insert_route q R
          none [] e = refl
          none (x ∷ L) e = absurd (omega arith)
      by_size (suc m) e =
          subst Goal (sym test) (go (route_before z q) refl)
        where
          z : Route
          z = get_or L m (route 0 0 0)

          is_all : L ≡ take m L ++ (z ∷ [])
          is_all = sym (take-length L) ∙ ap (λ (j : ℕ). take j L) e ∙ take-suc L m (route 0 0 0) (omega arith)

          is_last : route_at low (at + length L - 1) ≡ z
          is_last =
              let j : at + length L - 1 ≡ at + m = omega arith in
              ap₂ (λ (A : List Route) (i : ℕ). route_at (P ++ (words_of (A ++ (h ∷ R)) ++ Q)) i) (sym (take-length L) ∙ ap (λ (i : ℕ). take i L) e) j
              ∙ get_last P Q at isP q L rises m h R (omega arith)

          test : all_before low at (at + length L) q ≡ route_before z q
          test =
              ap (λ (b : Bool). cond b true (route_before (route_at low (at + length L - 1)) q)) (lt-leb (at + length L) at (omega arith))
              ∙ ap (λ (x : Route). route_before x q) is_last

          go : (b : Bool) → route_before z q ≡ b → Goal b
          go true t =
              to_right
              (ap (λ (A : List Route). insert_route q (A ++ R)) is_all
              ∙ insert_past q z (take m L) R (subst Ascending is_all rises) t
              ∙ ap (λ (A : List Route). A ++ insert_route q R) (sym is_all))
          go false t =
              to_left
              (ap (λ (A : List Route). insert_route q (A ++ R)) is_all
              ∙ insert_within q z (take m L) R t
              ∙ ap (λ (A : List Route). insert_route q A ++ R) (sym is_all))

-- routes that were written around a free place, with one more put into its place among them
pub placed_is : (ws : List ℕ) (at : ℕ) (q h : Route) (L R : List Route) → Ascending (L ++ R) → (at + length L + 1 + length R) * 3 ≤ length ws
    → placed (sets ws (at * 3) (words_of (L ++ (h ∷ R)))) at (at + length L) (at + length L + 1 + length R) q
    ≡ sets ws (at * 3) (words_of (insert_route q (L ++ R)))
placed_is ws at q h L R rises room =
    ap (λ (l : List ℕ). placed l at (at + length L) (at + length L + 1 + length R) q)
    (sets-eq (words_of (L ++ (h ∷ R))) ws (at * 3) (omega (arith, n)) ∙ append_assoc P (words_of (L ++ (h ∷ R))) Q)
    ∙ places P Q at (length-take-le (at * 3) ws (omega arith)) q h L R (ascending_front L R rises)
    ∙ sym (append_assoc P (words_of (insert_route q (L ++ R))) Q)
    ∙ ap (λ (k : ℕ). P ++ words_of (insert_route q (L ++ R)) ++ drop (at * 3 + k) ws) (n ∙ sym m)
    ∙ sym (sets-eq (words_of (insert_route q (L ++ R))) ws (at * 3) (omega (arith, m)))
  where
    n : length (words_of (L ++ (h ∷ R))) ≡ (length L + 1 + length R) * 3
    n = length_words (L ++ (h ∷ R)) ∙ omega (arith, length-append L (h ∷ R))

    m : length (words_of (insert_route q (L ++ R))) ≡ (length L + 1 + length R) * 3
    m = length_words (insert_route q (L ++ R)) ∙ omega (arith, length_insert q (L ++ R), length-append L R)

    P : List ℕ
    P = take (at * 3) ws

    Q : List ℕ
    Q = drop (at * 3 + length (words_of (L ++ (h ∷ R)))) ws
