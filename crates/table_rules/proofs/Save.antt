-- The list that a table in good order is saved as is valid, has n routes, and holds the table's set: RULES, "Build and save". Assumes nothing.
use mathlib.Core.Path.{◌≡◌, refl, sym, ap, ap₂, ◌∙◌, subst, fun_ext}
use mathlib.Core.Logic.{◌⊎◌, inl, inr, ⊎_elim}
use mathlib.Core.Bool.{Bool, true, false, cond}
use mathlib.Core.List.{List, [], ◌∷◌, ◌++◌, map, append_assoc, append_cancel_left, Memᴰ}
use Prim.Native.Nat.{ℕ, zero, suc, ◌+◌, ◌-◌, ◌<◌, ◌≤◌}
use native.Mathlib.Omega.{arith}
use native.Mathlib.Nat.{zero-add}
use native.Mathlib.Numerals.{add-one}
use lib.Dec.{ltb}
use lib.ListN.{length, get_or, length-append}
use lib.Pow.{shr_mono}
use borrow.Author.Tests.{eq-eqb, ne_eqb}
use Rattle.bits.specs.Bits.{Bits, value, prefix_bits, same}
use Rattle.bits.specs.Prefix.{head, precedes}
use Rattle.bits.proofs.Bits.{same_eq, value_append}
use Rattle.bits.proofs.Order.{precedes_yes}
use Rattle.lists.proofs.Tests.{way}
use Rattle.trie.specs.Routes.{Route as BitRoute, Routes, upd, side, held}
use Rattle.trie.specs.Trie.{Trie, leaf, node, IsTrie}
use Rattle.trie.proofs.Listed.{held_in, held_other}
use Rattle.trie.proofs.Remove.{own_out}
use Rattle.trie.proofs.Routes.{upd_other, none_or_some}
use Rattle.routes.specs.Bounds.{most_routes}
use Rattle.routes.specs.Routes.{route, bit_route, ValidRoute}
use Rattle.routes.specs.declared.Route.{Route}
use Rattle.table_rules.specs.Rows.{Mem, child, route_of}
use Rattle.table_rules.specs.Holds.{Names, Holds, times, GoodFor}
use Rattle.table_rules.specs.Save.{insert_route, saved_at, saved}
use Rattle.table_rules.specs.Theorems.{SavedWell, SavedIs}
use Rattle.table_rules.proofs.Paths.{At, head_path}
use Rattle.table_rules.proofs.Holds.{Below, below_root, below_child, below_once}
use Rattle.table_rules.specs.Walk.{saved_below}
use Rattle.table_rules.specs.Ascending.{Before, Ascending}
use Rattle.table_rules.specs.Savable.{Savable}
use Rattle.table_rules.proofs.Reach.{upd_live, size}
use Rattle.table_rules.proofs.Place.{holds_deep}
use Rattle.table_rules.proofs.Good.{once_size}
use Rattle.table_rules.proofs.Ascending.{Differ, append_ascending, insert_in, insert_own, insert_old, length_insert, insert_ascending, get_in, ascending_next, map_in, in_map, ascending_distinct}

-- all to the left of a place stands before all to its right
sides_before : (w : ℕ) (path : Bits) (v l v' l' : ℕ) (s s' : Bits) → At w (path ++ (false ∷ [])) v l s → At w (path ++ (true ∷ [])) v' l' s' → v < v'
sides_before w path v l v' l' s s' at at' =
    let d : length (path ++ (false ∷ [])) ≡ length (path ++ (true ∷ [])) = length-append path (false ∷ []) ∙ sym (length-append path (true ∷ [])) in
    let e : head w (length (path ++ (true ∷ []))) v ≡ value (path ++ (false ∷ [])) =
    ap (λ (j : ℕ). head w j v) (sym d) ∙ head_path w (path ++ (false ∷ [])) v l s at in
    let f : (v' ≤ v → ⊥) = (λ h. omega (
      arith,
      shr_mono (w - length (path ++ (true ∷ []))) h,
      e,
      head_path w (path ++ (true ∷ [])) v' l' s' at',
      value_append path (false ∷ []),
      value_append path (true ∷ []),
    )) in
    omega arith

module _ (w : ℕ) where
  -- x goes on from the path as a route of S
  pub record Kept (path : Bits) (S : Routes) (x : Route) : Type 0 where
    pub rest : Bits
    pub is : prefix_bits w x.value x.len ≡ path ++ rest
    pub valid : ValidRoute w x
    pub port : S rest ≡ x.port

  -- rs lists the routes of S below a path, m of them
  pub record Lists (path : Bits) (S : Routes) (rs : List Route) (m : ℕ) : Type 0 where
    pub count : length rs ≡ m
    pub rises : Ascending rs
    pub each : (x : Route) → Memᴰ x rs → Kept path S x
    pub all : (q : Bits) → 0 < S q → (x : Route) × Memᴰ x rs × (prefix_bits w x.value x.len ≡ path ++ q)

  lists_none : (path : Bits) (S : Routes) → ((q : Bits) → S q ≡ 0) → Lists path S [] 0
  lists_none path S h = record {
    count = refl;
    rises = tt;
    each = λ x m. absurd (mathlib.Core.List.Memᴰ.not-nil m);
    all = λ q k. absurd (omega (arith, h q));
  }

  kept_at : (path : Bits) (S : Routes) (x : Route) (k : Kept path S x) → At w path x.value x.len k.rest
  kept_at path S x k = record { valid = k.valid.prefix; is = k.is }

  -- a node's route over those of its two sides
  module _ (path : Bits) (S : Routes) (s : Bits) (p : ℕ) (c : Bool → Trie) (rule : IsTrie (node s p c) S) (q : Route)
      (valid : ValidRoute w q) (is : prefix_bits w q.value q.len ≡ path ++ s) (port : q.port ≡ p)
      (on : Bool → List Route) (lists : (b : Bool) → Lists (path ++ (b ∷ [])) (side b (upd S s 0)) (on b) (size (c b))) where
    abbrev both : List Route
    both = on false ++ on true

    -- a route of a side: its bit, and what it keeps
    from_side : (x : Route) → Memᴰ x both → (b : Bool) × Kept (path ++ (b ∷ [])) (side b (upd S s 0)) x
    from_side x m =
        ⊎_elim (λ l. (false, (lists false).each x l)) (λ r. (true, (lists true).each x r)) (mathlib.Core.List.Memᴰ.append_cases (on false) m)

    in_side : (b : Bool) (x : Route) → Memᴰ x (on b) → Memᴰ x both
    in_side false x m = mathlib.Core.List.Memᴰ.append_left (on true) m
    in_side true x m = mathlib.Core.List.Memᴰ.append_right (on false) m

    kept_up : (x : Route) (b : Bool) → Kept (path ++ (b ∷ [])) (side b (upd S s 0)) x → Kept path S x
    kept_up x b k = record {
      rest = b ∷ k.rest;
      is = k.is ∙ append_assoc path (b ∷ []) k.rest;
      valid = k.valid;
      port = (upd_live S s (b ∷ k.rest) (omega (arith, k.port, k.valid.some))).1 ∙ k.port;
    }

    differs : (x : Route) → Memᴰ x both → Differ q x
    differs x m ev el =
        let f = from_side x m in
        let k = f.1 in
        let e : f.0 ∷ k.rest ≡ s =
        append_cancel_left path (f.0 ∷ k.rest) s
        (sym (append_assoc path (f.0 ∷ []) k.rest) ∙ sym k.is ∙ sym (ap₂ (prefix_bits w) ev el) ∙ is) in
        (upd_live S s (f.0 ∷ k.rest) (omega (arith, k.port, k.valid.some))).0 e

    before_sides : (x y : Route) → Memᴰ x (on false) → Memᴰ y (on true) → Before x y
    before_sides x y m n =
        let k = (lists false).each x m in
        let l = (lists true).each y n in
        precedes_yes x.value x.len y.value y.len
        (inl (sides_before w path x.value x.len y.value y.len k.rest l.rest
        (kept_at (path ++ (false ∷ [])) (side false (upd S s 0)) x k) (kept_at (path ++ (true ∷ [])) (side true (upd S s 0)) y l)))

    both_rise : Ascending both
    both_rise = append_ascending (on false) (on true) (lists false).rises (lists true).rises before_sides

    lists_node : Lists path S (insert_route q both) (size (node s p c))
    lists_node = record {
      count = length_insert q both ∙ ap suc (length-append (on false) (on true)) ∙ omega (arith, (lists false).count, (lists true).count);
      rises = insert_ascending q both both_rise differs;
      each = each;
      all = λ x h. all x h (way (same x s));
    }
      where
        each : (x : Route) → Memᴰ x (insert_route q both) → Kept path S x
        each x m =
            ⊎_elim
            (λ (e : x ≡ q). subst (Kept path S) (sym e) (record { rest = s; is = is; valid = valid; port = rule.own ∙ sym port }))
            (λ (n : Memᴰ x both). let f = from_side x n in kept_up x f.0 f.1)
            (insert_in q x both m)

        below : (y : Bits) → 0 < upd S s 0 y → (x : Route) × Memᴰ x (insert_route q both) × (prefix_bits w x.value x.len ≡ path ++ y)
        below [] h = absurd (omega (arith, own_out S s rule.top))
        below (b ∷ y) h =
            let a = (lists b).all y h in
            (a.0, insert_old q a.0 both (in_side b a.0 a.1), a.2 ∙ append_assoc path (b ∷ []) y)

        all : (y : Bits) → 0 < S y → (same y s ≡ true) ⊎ (same y s ≡ false)
            → (x : Route) × Memᴰ x (insert_route q both) × (prefix_bits w x.value x.len ≡ path ++ y)
        all y h (inl t) = (q, insert_own q both, is ∙ ap (λ (z : Bits). path ++ z) (sym (same_eq y s t)))
        all y h (inr t) = below y (rw (upd_other S s y 0 t) h)

module _ (w : ℕ) (M : Mem) where
  abbrev SavesAs : Trie → Type 0
  SavesAs leaf = Unit {0}
  SavesAs (node s p c) =
      (path : Bits) (k r : ℕ) (S : Routes) → length path + k ≡ w → Holds w M path r (node s p c) → IsTrie (node s p c) S
      → Lists w path S (saved_at M k r) (size (node s p c))

  saves_child : (t : Trie) → SavesAs t → (path : Bits) (k c : ℕ) (S : Routes) → length path + k ≡ w → Names c t → Holds w M path c t → IsTrie t S
      → Lists w path S (saved_below M k c) (size t)
  saves_child leaf ih path k c S deep names h rule =
      subst (λ (b : Bool). Lists w path S (cond b [] (saved_at M k c)) 0) (sym (eq-eqb c 0 names)) (lists_none w path S rule)
  saves_child (node s p d) ih path k c S deep names h rule =
      subst (λ (b : Bool). Lists w path S (cond b [] (saved_at M k c)) (size (node s p d))) (sym (ne_eqb c 0 (λ z. omega arith))) (ih path k c S deep h rule)

  -- at the full depth a child is none
  saves_end : (t : Trie) (path : Bits) (b : Bool) (c : ℕ) (S : Routes) → length path ≡ w → Names c t → Holds w M (path ++ (b ∷ [])) c t → IsTrie t S
      → Lists w (path ++ (b ∷ [])) S [] (size t)
  saves_end leaf path b c S deep names h rule = lists_none w (path ++ (b ∷ [])) S rule
  saves_end (node s p d) path b c S deep names h rule =
      absurd (omega (arith, holds_deep w M (path ++ (b ∷ [])) c s p d h, length-append path (b ∷ [])))

  saves_node : (s : Bits) (p : ℕ) (c : Bool → Trie) → ((b : Bool) → SavesAs (c b)) → SavesAs (node s p c)
  unfolding saved_at insert_route
  saves_node s p c ih path zero r S deep h rule =
      lists_node w path S s p c rule (route_of (M r)) h.valid h.bits h.port (λ b. [])
      (λ b. saves_end (c b) path b (child (M r) b) (side b (upd S s 0)) (omega arith) (h.below b).0 (h.below b).1 (rule.rest b))
  saves_node s p c ih path (suc k) r S deep h rule =
      lists_node w path S s p c rule (route_of (M r)) h.valid h.bits h.port (λ b. saved_below M k (child (M r) b))
      (λ b.
      saves_child (c b) (ih b) (path ++ (b ∷ [])) k (child (M r) b) (side b (upd S s 0)) (omega (arith, length-append path (b ∷ [])))
      (h.below b).0 (h.below b).1 (rule.rest b))

  saves_as : (t : Trie) → SavesAs t
  saves_as leaf = tt
  saves_as (node s p c) = saves_node s p c (λ b. saves_as (c b))

  -- a table's routes, all of them
  saves_root : (n : ℕ) (t : Trie) (S : Routes) → IsTrie t S → Holds w M [] 0 t → ((i : ℕ) → times M 0 t i ≡ cond (ltb i n) 1 0)
      → Lists w [] S (saved w M n) n
  saves_root n leaf S rule holds once =
      let e : 0 ≡ n = once_size M n leaf once in
      subst (λ (b : Bool). Lists w [] S (cond b [] (saved_at M w 0)) n) (sym (eq-eqb n 0 (sym e)))
      (subst (Lists w [] S []) e (lists_none w [] S rule))
  saves_root n (node s p c) S rule holds once =
      let e : size (node s p c) ≡ n = once_size M n (node s p c) once in
      subst (λ (b : Bool). Lists w [] S (cond b [] (saved_at M w 0)) n) (sym (ne_eqb n 0 (λ z. omega arith)))
      (subst (Lists w [] S (saved_at M w 0)) e (saves_as (node s p c) [] w 0 S (zero-add w) holds rule))

-- the walk may write the rows of a table
module _ (w : ℕ) (M : Mem) (room : ℕ) where
  abbrev SavableAt : Trie → Type 0
  SavableAt leaf = Unit {0}
  SavableAt (node s p c) =
      (path : Bits) (k r : ℕ) (S : Routes) → length path + k ≡ w → Holds w M path r (node s p c) → IsTrie (node s p c) S
      → Below M r (node s p c) room → Savable M room k r

  savable_child : (t : Trie) → SavableAt t → (path : Bits) (k c : ℕ) (S : Routes) → length path + k ≡ w → Names c t → Holds w M path c t → IsTrie t S
      → Below M c t room → 0 < c → Savable M room k c
  savable_child leaf ih path k c S deep names h rule low pos = absurd (omega arith)
  savable_child (node s p d) ih path k c S deep names h rule low pos = ih path k c S deep h rule low

  savable_node : (s : Bits) (p : ℕ) (c : Bool → Trie) → ((b : Bool) → SavableAt (c b)) → SavableAt (node s p c)
  unfolding Savable
  savable_node s p c ih path zero r S deep h rule low = below_root M r s p c room low
  savable_node s p c ih path (suc k) r S deep h rule low =
      let on : ((b : Bool) → length (path ++ (b ∷ [])) + k ≡ w) = (λ b. omega (arith, length-append path (b ∷ []))) in (
        below_root M r s p c room low,
        both_rise w path S s p c rule (route_of (M r)) h.valid h.bits h.port (λ b. saved_below M k (child (M r) b))
            (λ b.
            saves_child w M (c b) (saves_as w M (c b)) (path ++ (b ∷ [])) k (child (M r) b) (side b (upd S s 0)) (on b) (h.below b).0 (h.below b).1
            (rule.rest b)),
        λ b pos.
            savable_child (c b) (ih b) (path ++ (b ∷ [])) k (child (M r) b) (side b (upd S s 0)) (on b) (h.below b).0 (h.below b).1 (rule.rest b)
            (below_child M r s p c room b low) pos,
      )

  savable_at : (t : Trie) → SavableAt t
  savable_at leaf = tt
  savable_at (node s p c) = savable_node s p c (λ b. savable_at (c b))

  savable_root : (n : ℕ) (t : Trie) (S : Routes) → IsTrie t S → Holds w M [] 0 t → ((i : ℕ) → times M 0 t i ≡ cond (ltb i n) 1 0)
      → 0 < n → n ≤ room → Savable M room w 0
  savable_root n leaf S rule holds once pos le = absurd (omega (arith, once_size M n leaf once))
  savable_root n (node s p c) S rule holds once pos le =
      savable_at (node s p c) [] w 0 S (zero-add w) holds rule (λ i h. omega (arith, below_once M (node s p c) n once i h))

pub good_savable : (w capacity : ℕ) (M : Mem) (n room : ℕ) (S : Routes) → GoodFor w capacity M n S → 0 < n → n ≤ room → Savable M room w 0
good_savable w capacity M n room S good pos le =
    let p = good.placed in savable_root w M room n p.trie S p.rule p.holds p.once pos le

-- a list of all routes of S is valid, and holds S
lists_well : (w n : ℕ) (S : Routes) (rs : List Route) → n ≤ most_routes → Lists w [] S rs n → SavedWell w rs n S
lists_well w n S rs few h = record {
  size = h.count;
  list = record { few = few; each = λ i l. ok (get_or rs i none) (get_in rs none i (omega (arith, h.count))); rises = rises };
  same = fun_ext (λ q. at q (none_or_some (S q)));
}
  where
    none : Route
    none = route 0 0 0

    ok : (x : Route) → Memᴰ x rs → ValidRoute w x
    ok x m = (h.each x m).valid

    rises : (i : ℕ) → i + 1 < n
        → precedes (get_or rs i none).value (get_or rs i none).len (get_or rs (i + 1) none).value (get_or rs (i + 1) none).len ≡ true
    rises i l =
        rw (add-one i) (ascending_next rs none i h.rises (omega (arith, h.count)))

    at : (q : Bits) → (S q ≡ 0) ⊎ (0 < S q) → held (map (bit_route w) rs) q ≡ S q
    at q (inr k) =
        let a = h.all q k in
        let x : Route = a.0 in
        let y = h.each x a.1 in
        ap (held (map (bit_route w) rs)) (sym a.2)
        ∙ held_in (map (bit_route w) rs) (bit_route w x) (ascending_distinct w rs h.rises ok) (in_map w x rs a.1)
        ∙ sym y.port ∙ ap S (sym y.is ∙ a.2)
    at q (inl z) = held_other (map (bit_route w) rs) q out ∙ sym z
      where
        out : (y : BitRoute) → Memᴰ y (map (bit_route w) rs) → y.prefix ≡ q → ⊥
        out y m e =
            let a = map_in w y rs m in
            let k = h.each a.0 a.1 in
            omega (arith, k.port, k.valid.some, ap S (sym k.is ∙ sym (ap (λ (b : BitRoute). b.prefix) a.2) ∙ e))

pub saved_is : SavedIs
saved_is w capacity M n S good few =
    let p = good.placed in lists_well w n S (saved w M n) few (saves_root w M n p.trie S p.rule p.holds p.once)
