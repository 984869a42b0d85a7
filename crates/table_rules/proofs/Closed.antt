-- Every step of an update keeps what each stored row keeps, as the room. Assumes nothing.
use mathlib.Core.Path.{◌≡◌, refl, ◌∙◌}
use mathlib.Core.Bool.{Bool, true, false, cond}
use Prim.Native.Nat.{ℕ, zero, suc, ◌-◌}
use lib.Dec.{eqb, ltb}
use Rattle.bits.specs.Bits.{bit_before}
use Rattle.routes.specs.declared.Route.{Route}
use Rattle.table_rules.specs.Rows.{Layout, Stores, child, route_of, with_route, with_child, leaf_row}
use Rattle.table_rules.specs.Announce.{is_same, outranks_row, sink, announced}
use Rattle.table_rules.specs.Withdraw.{is_last, best_below, zero_row, Cut, cut, relink, close_gap, withdrawn}
use Rattle.table_rules.specs.declared.Row.{Row}

-- what holds of both arms holds of the choice
pub by_cond : {S : Type 0} (P : S → Type 0) (b : Bool) (x y : S) → (b ≡ true → P x) → (b ≡ false → P y) → P (cond b x y)
by_cond P true x y f g = f refl
by_cond P false x y f g = g refl

module _ {S A : Type 0} (L : Layout S) (F : S → A) (keeps : (m : S) (r : ℕ) (x : Row) → F (L.put m r x) ≡ F m) (w : ℕ) where
  abbrev Kept : S → S → Type 0
  Kept m z = F z ≡ F m

  sink_keeps : (k : ℕ) (m : S) (n r : ℕ) (q : Route) → F (sink L w k m n r q) ≡ F m
  unfolding sink
  sink_keeps zero m n r q = by_cond (Kept m) (is_same q (L.get m r)) _ _ (λ e. keeps m r (with_route (L.get m r) q)) (λ e. refl)
  sink_keeps (suc k) m n r q =
      let o : Bool = outranks_row (w - suc k) q (L.get m r) in
      let U : Route = cond o q (route_of (L.get m r)) in
      let D : Route = cond o (route_of (L.get m r)) q in
      let b : Bool = bit_before D.value k in
      let c : ℕ = child (L.get m r) b in
      let Y : Row = with_route (L.get m r) U in
      by_cond (Kept m) (is_same q (L.get m r)) _ _ (λ e. keeps m r (with_route (L.get m r) q))
      (λ e.
      by_cond (Kept m) (eqb c 0) _ _
      (λ f. keeps (L.put m r (with_child Y b n)) n (leaf_row D) ∙ keeps m r (with_child Y b n))
      (λ f. sink_keeps k (L.put m r Y) n c D ∙ keeps m r Y))

  relink_keeps : (k : ℕ) (m : S) (r v last f : ℕ) → F (relink L w k m r v last f) ≡ F m
  unfolding relink
  relink_keeps zero m r v last f = refl
  relink_keeps (suc k) m r v last f =
      by_cond (Kept m) (eqb (child (L.get m r) (bit_before v k)) last) _ _
      (λ e. keeps m r _)
      (λ e. relink_keeps k m (child (L.get m r) (bit_before v k)) v last f)

  cut_keeps : (k : ℕ) (m : S) (r : ℕ) (q : Route) → F (cut L w k m r q).rows ≡ F m
  unfolding cut
  cut_keeps zero m r q = refl
  cut_keeps (suc k) m r q =
      let a : Bool = is_same q (L.get m r) in
      let z : Route = best_below w (L.get m) k (L.get m r) in
      let D : Route = cond a z q in
      let H : Route = cond a z (route_of (L.get m r)) in
      let b : Bool = bit_before D.value k in
      let c : ℕ = child (L.get m r) b in
      let Y : Row = with_route (L.get m r) H in
      by_cond (λ (u : Cut S). F u.rows ≡ F m) (is_last D (L.get m c)) (record { rows = L.put m r (with_child Y b 0); freed = c })
      (cut L w k (L.put m r Y) c D) (λ e. keeps m r (with_child Y b 0)) (λ e. cut_keeps k (L.put m r Y) c D ∙ keeps m r Y)

  pub announced_keeps : (m : S) (n : ℕ) (q : Route) → F (announced L w m n q) ≡ F m
  unfolding announced
  announced_keeps m n q = by_cond (Kept m) (eqb n 0) _ _ (λ e. keeps m 0 (leaf_row q)) (λ e. sink_keeps w m n 0 q)

  pub withdrawn_keeps : (m : S) (n : ℕ) (q : Route) → F (withdrawn L w m n q) ≡ F m
  unfolding withdrawn close_gap
  withdrawn_keeps m n q =
      let z : Cut S = cut L w w m 0 q in
      let last : ℕ = n - 1 in
      let s' : S = relink L w w z.rows 0 (L.get z.rows last).value last z.freed in
      let moved : S = L.put s' z.freed (L.get s' last) in
      by_cond (Kept m) (ltb 1 n) _ _
      (λ e.
      keeps (cond (eqb z.freed last) z.rows moved) last zero_row
      ∙ by_cond (Kept m) (eqb z.freed last) z.rows moved (λ f. cut_keeps w m 0 q)
      (λ f.
      keeps s' z.freed (L.get s' last)
      ∙ relink_keeps w z.rows 0 (L.get z.rows last).value last z.freed ∙ cut_keeps w m 0 q))
      (λ e. keeps m 0 zero_row)

module _ {S : Type 0} (L : Layout S) (v : ℕ) (st : Stores v L) (w : ℕ) where
  pub relink_room : (k : ℕ) (m : S) (r v last f : ℕ) → L.room (relink L w k m r v last f) ≡ L.room m
  relink_room = relink_keeps L L.room st.room_put w

  pub cut_room : (k : ℕ) (m : S) (r : ℕ) (q : Route) → L.room (cut L w k m r q).rows ≡ L.room m
  cut_room = cut_keeps L L.room st.room_put w

  -- the calls themselves keep the room
  pub announced_room : (m : S) (n : ℕ) (q : Route) → L.room (announced L w m n q) ≡ L.room m
  announced_room = announced_keeps L L.room st.room_put w

  pub withdrawn_room : (m : S) (n : ℕ) (q : Route) → L.room (withdrawn L w m n q) ≡ L.room m
  withdrawn_room = withdrawn_keeps L L.room st.room_put w
