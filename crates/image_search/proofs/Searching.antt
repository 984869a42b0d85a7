-- The search on its way through the slots of a node finds the stretch of each. Assumes nothing.
use mathlib.Core.Path.{◌≡◌, sym, ap, ◌∙◌, subst}
use Prim.Native.Nat.{ℕ, ◌+◌, ◌≤◌, ◌<◌}
use Rattle.routes.specs.declared.Route.{Route}
use Rattle.image_rules.specs.Breadth.{leaf}
use Rattle.image_stretch.specs.declared.Stretch.{Stretch}
use Rattle.image_stretch.specs.Stretches.{slot_stretch_at, address_of, slot_address, stretch_at, stretch_slot}
use Rattle.image_stretch.specs.Needs.{Fits, Parted, Clear}
use Rattle.image_stretch.proofs.Resuming.{Resumed, resumed_none, resumed_later, resumed_is, resumed_more, clear_slot}
use Rattle.image_search.specs.declared.Search.{Search}
use Rattle.image_search.specs.Search.{search_from, search_after}
use Rattle.image_search.proofs.Clearing.{from_clear, after_clear}

-- at slot j of m
pub record Searching (w : ℕ) (R : ℕ → Route) (s m : ℕ) (x : Stretch) (j : ℕ) (q : Search) : Type 0 where
  pub resumed : Resumed w R s m x j q.short q.route
  pub clear : Clear w R m x q.short q.route (address_of w R x) (x.depth + s) q.clear

module _ (w : ℕ) (R : ℕ → Route) (s m : ℕ) (x : Stretch) (f : Fits x) (address : ℕ) (is : address ≡ address_of w R x) where
  pub searching_first : (q : Search) → q ≡ search_from w R m x x.lo address (x.depth + s) → Searching w R s m x 0 q
  searching_first q e =
      subst (λ (p : Search). Searching w R s m x 0 p) (sym (e ∙ ap (λ (a : ℕ). search_from w R m x x.lo a (x.depth + s)) is))
      record { resumed = resumed_none w R s m x f; clear = from_clear w R m x (address_of w R x) (x.depth + s) x.lo }

  module _ (j : ℕ) (q : Search) (g : Searching w R s m x j q) where
    pub searching_later : (i : ℕ) → j ≤ i → Searching w R s m x i q
    searching_later i h = record { resumed = resumed_later w R s m x f j q.short q.route g.resumed i h; clear = g.clear }

    -- slots that are passed over
    pub slot_clear : (i : ℕ) → j ≤ i → i < q.clear → stretch_slot w R s x i ≡ leaf x.best
    slot_clear i h k = clear_slot w R s m x f j q.short q.route g.resumed q.clear g.clear i h k

    pub slot_found : j < m → (y : Stretch) → y ≡ slot_stretch_at w R x q.short q.route (slot_address w address (x.depth + s) j) (x.depth + s)
        → y ≡ stretch_at w R s x j
    slot_found h y e =
        e ∙ ap (λ (a : ℕ). slot_stretch_at w R x q.short q.route (slot_address w a (x.depth + s) j) (x.depth + s)) is
        ∙ resumed_is w R s m x f j q.short q.route g.resumed h

    pub searching_more : Parted w R s m x → j < m → (y : Stretch) → y ≡ stretch_at w R s x j → (p : Search)
        → p ≡ search_after w R m x q.short y address (x.depth + s) → Searching w R s m x (j + 1) p
    searching_more apart h y e p d =
        let a = after_clear w R m x (address_of w R x) (x.depth + s) q.short y p (d ∙ ap (λ (a : ℕ). search_after w R m x q.short y a (x.depth + s)) is) in
        record {
          resumed = subst (λ (i : ℕ). Resumed w R s m x (j + 1) p.short i) (sym a.1)
              (resumed_more w R s m x f j q.short q.route g.resumed apart h y e p.short a.0);
          clear = a.2;
        }
