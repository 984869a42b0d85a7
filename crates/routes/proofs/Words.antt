-- The words of a list of routes: their number, one list after another, and one route read or stored among them. Assumes nothing.
use mathlib.Core.Path.{◌≡◌, refl, sym, ap, ◌∙◌}
use mathlib.Core.List.{List, [], ◌∷◌, ◌++◌, append_assoc}
use Prim.Native.Nat.{ℕ, suc, ◌+◌, ◌*◌, ◌<◌, ◌≤◌, ◌%◌}
use native.Mathlib.Omega.{arith}
use native.Mathlib.Nat.{add-zero}
use native.Mathlib.Numerals.{towards_suc, add-one}
use lib.ListN.{length, get_or, take, drop, length-append}
use lib.Seq.{sets, sets-eq, take_at, split_at, length-take-le, get_or-append-add, drop-append-add, take-length, drop-cons}
use Rattle.promise.specs.Over.{store_three}
use borrow.Author.Tests.{lt-ltb}
use Rattle.routes.specs.Routes.{route_count, store_route, route_at, route_words, words_of, list_of_routes}
use Rattle.routes.specs.declared.Route.{Route}
use Rattle.lists.proofs.InOrder.{length_in_order, in_order_split, in_order_taken}
use Rattle.lists.proofs.Flat.{flat_append}

pub length_words : (rs : List Route) → length (words_of rs) ≡ length rs * 3
length_words [] = refl
length_words (r ∷ rs) = omega (arith, length_words rs)

pub words_append : (xs ys : List Route) → words_of (xs ++ ys) ≡ words_of xs ++ words_of ys
words_append xs ys = flat_append route_words xs ys

-- a route that is lent whole is stored word by word
pub store_whole_lem : (ws : List ℕ) (i : ℕ) (r : Route) → i * 3 + 3 ≤ length ws
    → store_route ws i r ≡ store_three ws (i * 3) r.value r.len r.port
unfolding store_route
store_whole_lem ws i r h = rw (lt-ltb i (route_count ws) (omega arith))

pub store_sets : (ws : List ℕ) (i : ℕ) (r : Route) → i * 3 + 3 ≤ length ws → store_route ws i r ≡ sets ws (i * 3) (route_words r)
store_sets ws i r h =
    let s : store_three ws (i * 3) r.value r.len r.port ≡ sets ws (i * 3) (route_words r) = simp towards_suc in
    store_whole_lem ws i r h ∙ s

-- route j, where j routes of words stand before it
module _ (X Y : List ℕ) (j : ℕ) (at : length X ≡ j * 3) where
  pub get_words : (z : Route) → route_at (X ++ (route_words z ++ Y)) j ≡ z
  get_words z = λ i. record {
    value = (ap (λ (a : ℕ). get_or (X ++ (route_words z ++ Y)) a 0) (sym (add-zero (j * 3))) ∙ word 0) i;
    len = word 1 i;
    port = word 2 i;
  }
    where
      word : (k : ℕ) → get_or (X ++ (route_words z ++ Y)) (j * 3 + k) 0 ≡ get_or (route_words z ++ Y) k 0
      word k =
          ap (λ (a : ℕ). get_or (X ++ (route_words z ++ Y)) (a + k) 0) (sym at) ∙ get_or-append-add X (route_words z ++ Y) k 0

  pub store_words : (h x : Route) → store_route (X ++ (route_words h ++ Y)) j x ≡ X ++ (route_words x ++ Y)
  store_words h x =
      let ws : List ℕ = X ++ (route_words h ++ Y) in
      let m : j * 3 + 3 ≤ length ws = omega (arith, length-append X (route_words h ++ Y)) in
      store_sets ws j x m
      ∙ sets-eq (route_words x) ws (j * 3) m
      ∙ ap (λ (p : List ℕ). p ++ route_words x ++ drop (j * 3 + 3) ws) (take_at X (route_words h ++ Y) (j * 3) at)
      ∙ ap (λ (q : List ℕ). X ++ route_words x ++ q) (ap (λ (a : ℕ). drop (a + 3) ws) (sym at) ∙ drop-append-add X (route_words h ++ Y) 3)
      ∙ append_assoc X (route_words x) Y

-- route i of the words of a list, whatever follows them
pub get_words_at : (rs : List Route) (Y : List ℕ) (i : ℕ) (d : Route) → i < length rs → route_at (words_of rs ++ Y) i ≡ get_or rs i d
get_words_at rs Y i d h =
    let X : List ℕ = words_of (take i rs) in
    let Z : List ℕ = words_of (drop (suc i) rs) in
    let n : length X ≡ i * 3 = length_words (take i rs) ∙ ap (λ (k : ℕ). k * 3) (length-take-le i rs (omega arith)) in
    ap (λ (ws : List ℕ). route_at (ws ++ Y) i) (ap words_of (split_at rs i d h) ∙ words_append (take i rs) (get_or rs i d ∷ drop (suc i) rs))
    ∙ ap (λ (ws : List ℕ). route_at ws i) (append_assoc X (route_words (get_or rs i d) ++ Z) Y)
    ∙ get_words X (Z ++ Y) i n (get_or rs i d)

pub length_list : (R : ℕ → Route) (n : ℕ) → length (list_of_routes R n) ≡ n * 3
length_list R n = length_in_order route_words R 3 n (λ i. refl)

pub count_list : (R : ℕ → Route) (n : ℕ) → route_count (list_of_routes R n) ≡ n
count_list R n = omega (arith, length_list R n)

-- route i of the words of routes
pub route_in_list : (R : ℕ → Route) (n i : ℕ) → i < n → route_at (list_of_routes R n) i ≡ R i
route_in_list R n i h = λ j. record { value = first j; len = word 1 j; port = word 2 j }
  where
    rest : List ℕ
    rest = drop (length (list_of_routes R (i + 1))) (list_of_routes R n)

    word : (k : ℕ) → get_or (list_of_routes R n) (i * 3 + k) 0 ≡ get_or (route_words (R i) ++ rest) k 0
    word k =
        ap (λ (l : List ℕ). get_or l (i * 3 + k) 0) (in_order_split route_words R i n h)
        ∙ ap (λ (m : ℕ). get_or (list_of_routes R i ++ (route_words (R i) ++ rest)) (m + k) 0) (sym (length_list R i))
        ∙ get_or-append-add (list_of_routes R i) (route_words (R i) ++ rest) k 0

    first : get_or (list_of_routes R n) (i * 3) 0 ≡ (R i).value
    first = ap (λ (m : ℕ). get_or (list_of_routes R n) m 0) (sym (add-zero (i * 3))) ∙ word 0

-- three words from route i on
pub three_taken : (words : List ℕ) (i : ℕ) → i * 3 + 3 ≤ length words → take 3 (drop (i * 3) words) ≡ route_words (route_at words i)
three_taken words i h =
    ap (take 3)
    (next (i * 3) (omega arith)
    ∙ ap (λ (l : List ℕ). get_or words (i * 3) 0 ∷ l)
    (next (i * 3 + 1) (omega arith)
    ∙ ap (λ (l : List ℕ). get_or words (i * 3 + 1) 0 ∷ l)
    (ap (λ (k : ℕ). drop k words) last ∙ next (i * 3 + 2) (omega arith))))
  where
    last : i * 3 + 1 + 1 ≡ i * 3 + 2
    last = omega arith

    next : (k : ℕ) → k < length words → drop k words ≡ get_or words k 0 ∷ drop (k + 1) words
    next k l = rw (add-one k) (drop-cons words k 0 l)

-- whole routes are all the words
pub list_same : (words : List ℕ) → length words % 3 ≡ 0 → list_of_routes (route_at words) (route_count words) ≡ words
list_same words whole =
    let n = route_count words in
    let all : n * 3 ≡ length words = omega arith in
    sym (in_order_taken route_words (route_at words) (λ i. i * 3) words [] n refl
    (λ i h. omega arith)
    (λ i h. three_taken words i (omega arith)) n (omega arith))
    ∙ ap (λ (k : ℕ). take k words) all ∙ take-length words
