-- What the searches of the code find, put together: a slot's stretch, and one pass. Assumes nothing.
use mathlib.Core.Path.{◌≡◌, ap, ◌∙◌}
use Prim.Native.Nat.{ℕ, ◌-◌}
use Rattle.routes.specs.declared.Route.{Route}
use Rattle.image_stretch.specs.declared.Stretch.{Stretch}
use Rattle.image_stretch.specs.Stretches.{stretch, past, last_from, stands_before, under, slot_stretch_at, from_at, to_at}
use Rattle.image_search.specs.declared.Sought.{Sought}
use Rattle.image_search.specs.Search.{sought, seek_from}

-- the slot's stretch, from what the three searches found
pub slot_stretch_is : (w : ℕ) (R : ℕ → Route) (x : Stretch) (short at v l port hi : ℕ) (s : Sought)
    → port ≡ last_from w R v x.best short (at - short) → s ≡ seek_from w R v l port at x.hi
    → hi ≡ past (under w R v l) (x.hi - s.route) s.route → stretch s.route hi l s.port ≡ slot_stretch_at w R x short at v l
unfolding slot_stretch_at
slot_stretch_is w R x short at v l port hi s a b c =
    ap (λ (h : ℕ). stretch s.route h l s.port) c
    ∙ ap (λ (y : Sought). stretch y.route (past (under w R v l) (x.hi - y.route) y.route) l y.port) b
    ∙ ap (λ (p : ℕ). stretch (from_at R x at v l) (to_at w R x at v l) l (last_from w R v p at (from_at R x at v l - at))) a

-- one pass, where it ended
pub seek_is : (w : ℕ) (R : ℕ → Route) (v l best lo hi i port : ℕ) → i ≡ past (stands_before R v l) (hi - lo) lo
    → port ≡ last_from w R v best lo (i - lo) → sought i port ≡ seek_from w R v l best lo hi
seek_is w R v l best lo hi i port e f =
    ap (λ (p : ℕ). sought i p) f ∙ ap (λ (j : ℕ). sought j (last_from w R v best lo (j - lo))) e
