-- Lists of routes in which each stands before all that follow: a route put in, one list after another, and such a list as a
-- valid route list. RULES, "Addresses and prefixes". Assumes nothing.
use mathlib.Core.Path.{◌≡◌, refl, sym, ap, ◌∙◌}
use mathlib.Core.Logic.{◌⊎◌, inl, inr, ⊎_elim}
use mathlib.Core.Bool.{Bool, true, false, cond, true≢false}
use mathlib.Core.List.Memᴰ
use mathlib.Core.List.{List, [], ◌∷◌, ◌++◌, map, Memᴰ}
use Prim.Native.Nat.{ℕ, zero, suc, ◌<◌}
use native.Mathlib.Omega.{arith}
use lib.ListN.{length, get_or}
use Rattle.bits.specs.Prefix.{precedes}
use Rattle.bits.proofs.Order.{ordered}
use Rattle.trie.specs.Routes.{Route as BitRoute, Distinct}
use Rattle.trie.proofs.Listed.{head_in, tail_in}
use Rattle.routes.specs.Routes.{bit_route, ValidRoute}
use Rattle.routes.specs.declared.Route.{Route}
use Rattle.bits.proofs.Bits.{valid_prefix_unique}
use Rattle.table_rules.specs.Save.{insert_route}
use Rattle.table_rules.specs.Ascending.{Before, Ascending}

before_trans : (a b c : Route) → Before a b → Before b c → Before a c
before_trans a b c h k = ordered.transitive a.value a.len b.value b.len c.value c.len h k

-- one list after another
pub append_ascending : (xs ys : List Route) → Ascending xs → Ascending ys
    → ((x y : Route) → Memᴰ x xs → Memᴰ y ys → Before x y) → Ascending (xs ++ ys)
append_ascending [] ys hx hy h = hy
append_ascending (x ∷ xs) ys hx hy h = (first, append_ascending xs ys hx.1 hy (λ a b m n. h a b (tail_in x xs m) n))
  where
    first : (y : Route) → Memᴰ y (xs ++ ys) → Before x y
    first y m = ⊎_elim (λ n. hx.0 y n) (λ n. h x y (head_in x xs) n) (Memᴰ.append_cases xs m)

-- a route put in

insert_cases : (q x r : Route) (rs : List Route) (b : Bool) → (Memᴰ x (insert_route q rs) → (x ≡ q) ⊎ Memᴰ x rs)
    → Memᴰ x (cond b (r ∷ insert_route q rs) (q ∷ r ∷ rs)) → (x ≡ q) ⊎ Memᴰ x (r ∷ rs)
insert_cases q x r rs true ih m =
    ⊎_elim
    (λ (e : x ≡ r). inr (Memᴰ.head e))
    (λ (n : Memᴰ x (insert_route q rs)). ⊎_elim (λ e. inl e) (λ k. inr (tail_in r rs k)) (ih n))
    (Memᴰ.cases_cons m)
insert_cases q x r rs false ih m = Memᴰ.cases_cons m

pub insert_in : (q x : Route) (rs : List Route) → Memᴰ x (insert_route q rs) → (x ≡ q) ⊎ Memᴰ x rs
unfolding insert_route
insert_in q x [] m = Memᴰ.cases_cons m
insert_in q x (r ∷ rs) m = insert_cases q x r rs (precedes r.value r.len q.value q.len) (insert_in q x rs) m

pub insert_own : (q : Route) (rs : List Route) → Memᴰ q (insert_route q rs)
unfolding insert_route
insert_own q [] = head_in q []
insert_own q (r ∷ rs) = go (precedes r.value r.len q.value q.len) (insert_own q rs)
  where
    go : (b : Bool) → Memᴰ q (insert_route q rs) → Memᴰ q (cond b (r ∷ insert_route q rs) (q ∷ r ∷ rs))
    go true m = tail_in r (insert_route q rs) m
    go false m = head_in q (r ∷ rs)

pub insert_old : (q x : Route) (rs : List Route) → Memᴰ x rs → Memᴰ x (insert_route q rs)
unfolding insert_route
insert_old q x [] m = absurd (Memᴰ.not-nil m)
insert_old q x (r ∷ rs) m = go (precedes r.value r.len q.value q.len) (Memᴰ.cases_cons m) (insert_old q x rs)
  where
    go : (b : Bool) → (x ≡ r) ⊎ Memᴰ x rs → (Memᴰ x rs → Memᴰ x (insert_route q rs))
        → Memᴰ x (cond b (r ∷ insert_route q rs) (q ∷ r ∷ rs))
    go true (inl e) ih = Memᴰ.head e
    go true (inr n) ih = tail_in r (insert_route q rs) (ih n)
    go false k ih = tail_in q (r ∷ rs) m

pub length_insert : (q : Route) (rs : List Route) → length (insert_route q rs) ≡ suc (length rs)
unfolding insert_route
length_insert q [] = refl
length_insert q (r ∷ rs) = go (precedes r.value r.len q.value q.len) (length_insert q rs)
  where
    go : (b : Bool) → length (insert_route q rs) ≡ suc (length rs) → length (cond b (r ∷ insert_route q rs) (q ∷ r ∷ rs)) ≡ suc (suc (length rs))
    go true e = ap suc e
    go false e = refl

-- q and x have different prefixes
abbrev pub Differ : Route → Route → Type 0
Differ q x = q.value ≡ x.value → q.len ≡ x.len → ⊥

-- what does not stand before, and differs, stands after
stands_after : (q r : Route) → precedes r.value r.len q.value q.len ≡ false → Differ q r → Before q r
stands_after q r t ne = go (ordered.total q.value q.len r.value r.len)
  where
    go : (precedes q.value q.len r.value r.len ≡ true)
        ⊎ ((precedes r.value r.len q.value q.len ≡ true) ⊎ ((q.value ≡ r.value) × (q.len ≡ r.len)))
        → Before q r
    go (inl e) = e
    go (inr (inl e)) = absurd (true≢false (sym e ∙ t))
    go (inr (inr e)) = absurd (ne e.0 e.1)

pub insert_ascending : (q : Route) (rs : List Route) → Ascending rs → ((x : Route) → Memᴰ x rs → Differ q x) → Ascending (insert_route q rs)
unfolding insert_route
insert_ascending q [] h ne = ((λ x m. absurd (Memᴰ.not-nil m)), tt)
insert_ascending q (r ∷ rs) h ne =
    go (precedes r.value r.len q.value q.len) refl (insert_ascending q rs h.1 (λ x m. ne x (tail_in r rs m)))
  where
    go : (b : Bool) → precedes r.value r.len q.value q.len ≡ b → Ascending (insert_route q rs)
        → Ascending (cond b (r ∷ insert_route q rs) (q ∷ r ∷ rs))
    go true t ih = (first, ih)
      where
        first : (x : Route) → Memᴰ x (insert_route q rs) → Before r x
        first x m =
            ⊎_elim
            (λ (e : x ≡ q). rw e t)
            (λ (n : Memᴰ x rs). h.0 x n)
            (insert_in q x rs m)
    go false t ih = (first, h)
      where
        after : Before q r
        after = stands_after q r t (ne r (head_in r rs))

        first : (x : Route) → Memᴰ x (r ∷ rs) → Before q x
        first x m =
            ⊎_elim
            (λ (e : x ≡ r). rw e after)
            (λ (n : Memᴰ x rs). before_trans q r x after (h.0 x n))
            (Memᴰ.cases_cons m)

-- by number

pub get_in : (rs : List Route) (d : Route) (i : ℕ) → i < length rs → Memᴰ (get_or rs i d) rs
get_in [] d i h = absurd (omega arith)
get_in (r ∷ rs) d zero h = head_in r rs
get_in (r ∷ rs) d (suc i) h = tail_in r rs (get_in rs d i (omega arith))

pub ascending_next : (rs : List Route) (d : Route) (i : ℕ) → Ascending rs → suc i < length rs → Before (get_or rs i d) (get_or rs (suc i) d)
ascending_next [] d i h l = absurd (omega arith)
ascending_next (r ∷ rs) d zero h l = h.0 (get_or rs 0 d) (get_in rs d 0 (omega arith))
ascending_next (r ∷ rs) d (suc i) h l = ascending_next rs d i h.1 (omega arith)

-- by bits

pub map_in : (w : ℕ) (y : BitRoute) (rs : List Route) → Memᴰ y (map (bit_route w) rs) → (x : Route) × Memᴰ x rs × (y ≡ bit_route w x)
map_in w y [] m = absurd (Memᴰ.not-nil m)
map_in w y (r ∷ rs) m = go (Memᴰ.cases_cons m) (map_in w y rs)
  where
    go : (y ≡ bit_route w r) ⊎ Memᴰ y (map (bit_route w) rs)
        → (Memᴰ y (map (bit_route w) rs) → (x : Route) × Memᴰ x rs × (y ≡ bit_route w x))
        → (x : Route) × Memᴰ x (r ∷ rs) × (y ≡ bit_route w x)
    go (inl e) ih = (r, head_in r rs, e)
    go (inr n) ih = let k = ih n in (k.0, tail_in r rs k.1, k.2)

pub in_map : (w : ℕ) (x : Route) (rs : List Route) → Memᴰ x rs → Memᴰ (bit_route w x) (map (bit_route w) rs)
in_map w x [] m = absurd (Memᴰ.not-nil m)
in_map w x (r ∷ rs) m = go (Memᴰ.cases_cons m) (in_map w x rs)
  where
    go : (x ≡ r) ⊎ Memᴰ x rs → (Memᴰ x rs → Memᴰ (bit_route w x) (map (bit_route w) rs))
        → Memᴰ (bit_route w x) (bit_route w r ∷ map (bit_route w) rs)
    go (inl e) ih = Memᴰ.head (ap (bit_route w) e)
    go (inr n) ih = tail_in (bit_route w r) (map (bit_route w) rs) (ih n)

pub ascending_distinct : (w : ℕ) (rs : List Route) → Ascending rs → ((x : Route) → Memᴰ x rs → ValidRoute w x) → Distinct (map (bit_route w) rs)
ascending_distinct w [] h ok = tt
ascending_distinct w (r ∷ rs) h ok = (differ, ascending_distinct w rs h.1 (λ x m. ok x (tail_in r rs m)))
  where
    differ : (y : BitRoute) → Memᴰ y (map (bit_route w) rs) → y.prefix ≡ (bit_route w r).prefix → ⊥
    differ y m e =
        let k = map_in w y rs m in
        let x : Route = k.0 in
        let u = valid_prefix_unique w x.value x.len r.value r.len (ok x (tail_in r rs k.1)).prefix (ok r (head_in r rs)).prefix (sym (ap (λ (z : BitRoute). z.prefix) k.2) ∙ e) in
        true≢false (sym (rw (u.0, u.1) at (h.0 x k.1)) ∙ ordered.irreflexive r.value r.len)

-- at the end of a list

pub ascending_front : (xs ys : List Route) → Ascending (xs ++ ys) → Ascending xs
ascending_front [] ys h = tt
ascending_front (x ∷ xs) ys h = ((λ y m. h.0 y (Memᴰ.append_left ys m)), ascending_front xs ys h.1)

ascending_last : (xs : List Route) (z : Route) → Ascending (xs ++ (z ∷ [])) → (a : Route) → Memᴰ a xs → Before a z
ascending_last [] z h a m = absurd (Memᴰ.not-nil m)
ascending_last (x ∷ xs) z h a m = go (Memᴰ.cases_cons m) (ascending_last xs z h.1 a)
  where
    go : (a ≡ x) ⊎ Memᴰ a xs → (Memᴰ a xs → Before a z) → Before a z
    go (inl e) ih = rw e (h.0 z (Memᴰ.append_right xs (head_in z [])))
    go (inr n) ih = ih n

-- a route that all stand before goes last
insert_last : (q : Route) (rs : List Route) → ((x : Route) → Memᴰ x rs → Before x q) → insert_route q rs ≡ rs ++ (q ∷ [])
unfolding insert_route
insert_last q [] h = refl
insert_last q (r ∷ rs) h =
    rw (h r (head_in r rs)) (ap (λ (l : List Route). r ∷ l) (insert_last q rs (λ x m. h x (tail_in r rs m))))

-- so does one that the last of an ascending list stands before
pub insert_after : (q z : Route) (xs : List Route) → Ascending (xs ++ (z ∷ [])) → Before z q
    → insert_route q (xs ++ (z ∷ [])) ≡ xs ++ (z ∷ []) ++ (q ∷ [])
insert_after q z xs h k = insert_last q (xs ++ (z ∷ [])) each
  where
    each : (x : Route) → Memᴰ x (xs ++ (z ∷ [])) → Before x q
    each x m =
        ⊎_elim
        (λ (n : Memᴰ x xs). before_trans x z q (ascending_last xs z h x n) k)
        (λ (n : Memᴰ x (z ∷ [])). rw (Memᴰ.eq_of_singleton n) k)
        (Memᴰ.append_cases xs m)

-- one that the last does not stand before goes in among the others
pub insert_among : (q z : Route) (xs : List Route) → precedes z.value z.len q.value q.len ≡ false
    → insert_route q (xs ++ (z ∷ [])) ≡ insert_route q xs ++ (z ∷ [])
unfolding insert_route
insert_among q z [] e = rw e
insert_among q z (x ∷ xs) e = go (precedes x.value x.len q.value q.len) (insert_among q z xs e)
  where
    go : (b : Bool) → insert_route q (xs ++ (z ∷ [])) ≡ insert_route q xs ++ (z ∷ [])
        → cond b (x ∷ insert_route q (xs ++ (z ∷ []))) (q ∷ x ∷ (xs ++ (z ∷ []))) ≡ cond b (x ∷ insert_route q xs) (q ∷ x ∷ xs) ++ (z ∷ [])
    go true ih = ap (λ (l : List Route). x ∷ l) ih
    go false ih = refl
