use mathlib.Core.Path.{refl}
use mathlib.Core.Bool.{true, false}
use borrow.Author.Tests.{le-leb, lt-leb, lt-ltb, le-ltb}
use Rattle.routes.specs.Routes.{route_at}
use Rattle.image_search.proofs.Clearing.{clear_by}
use Rattle.image_search.proofs.Slots.clear_to.Goals as goal

pub returns-then-self-at : goal.returns-then-self-at
returns-then-self-at c = let a = c.args in
    clear_by 32 (route_at a.self.list.now) a.self.slots a.self.x a.self.address a.self.depth a.at _ refl _ refl true _ _ (le-leb _ _ c.if-self-at.true) refl refl

pub returns-then-value-self : goal.returns-then-value-self
returns-then-value-self c = let a = c.args in
    clear_by 32 (route_at a.self.list.now) a.self.slots a.self.x a.self.address a.self.depth a.at _ c.route_at-value.ensures _ refl false true _ (lt-leb _ _ c.if-self-at.false) (lt-ltb _ _ c.if-value-self.true) refl

pub returns-then-self-slot : goal.returns-then-self-slot
returns-then-self-slot c = let a = c.args in
    clear_by 32 (route_at a.self.list.now) a.self.slots a.self.x a.self.address a.self.depth a.at _ c.route_at-value.ensures _ c.bits_past.ensures.0 false false true (lt-leb _ _ c.if-self-at.false) (le-ltb _ _ c.if-value-self.false) (le-leb _ _ c.if-self-slot.true)

pub returns : goal.returns
returns c = let a = c.args in
    clear_by 32 (route_at a.self.list.now) a.self.slots a.self.x a.self.address a.self.depth a.at _ c.route_at-value.ensures _ c.bits_past.ensures.0 false false false (lt-leb _ _ c.if-self-at.false) (le-ltb _ _ c.if-value-self.false) (lt-leb _ _ c.if-self-slot.false)
