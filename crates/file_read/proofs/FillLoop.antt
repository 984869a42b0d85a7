-- The routes of a file written into a list, one after the other. Assumes nothing.
use mathlib.Core.Path.{◌≡◌, refl, sym, ap, ap₂, ◌∙◌}
use mathlib.Core.List.{List, ◌++◌}
use Prim.Native.Nat.{ℕ, ◌+◌, ◌*◌, ◌≤◌, ◌<◌}
use native.Mathlib.Omega.{arith}
use lib.ListN.{length, length-set}
use Rattle.promise.specs.Over.{over, store_three}
use Rattle.promise.proofs.Over.{over_three}
use Rattle.routes.specs.Routes.{route_words, store_route, list_of_routes}
use Rattle.routes.specs.declared.Route.{Route}
use Rattle.octets.specs.Octets.{len_at}
use Rattle.file_rules.specs.File.{read_at, place_of, file_route, size_for}
use Rattle.lists.specs.Numbered.{in_order}
use Rattle.file_rules.specs.Check.{Entire}
use Rattle.lists.proofs.InOrder.{in_order_more}
use Rattle.file_rules.proofs.Sound.{place_more, fault_none}
use Rattle.file_read.specs.Needs.{FitsList}
use Rattle.routes.proofs.Words.{store_whole_lem, length_list}

-- i of n routes are written, and the next one is at an offset
pub record Filled (w : ℕ) (file list₀ : List ℕ) (n : ℕ) (list : List ℕ) (at i : ℕ) : Type 0 where
  pub at_place : at ≡ place_of file i
  pub same : length list ≡ length list₀
  pub written : list ≡ over (list_of_routes (file_route w file) i) list₀

pub filled_none : (w : ℕ) (file list : List ℕ) (n : ℕ) → Filled w file list n list 5 0
unfolding place_of in_order
filled_none w file list n = record { at_place = refl; same = refl; written = refl }

module _ (w : ℕ) (file list₀ : List ℕ) (n : ℕ) (fits : FitsList w file list₀ n) (list : List ℕ) (at i : ℕ) (so : Filled w file list₀ n list at i) where
  pub filled_entire : i < n → Entire w file at
  filled_entire h = rw so.at_place (fault_none w file i (fits.whole.none i h)).entire

  -- the next offset lies in the file, or at its end
  pub filled_next : i < n → (r : Route) (k : ℕ) → r ≡ read_at w file at → k ≡ size_for r.len → at + k ≤ length file
  unfolding read_at
  filled_next h r k r-is k-is =
      let e : k ≡ size_for (len_at file at) = k-is ∙ ap (λ (y : Route). size_for y.len) r-is in
      omega (arith, (filled_entire h).uncut, e)

  pub filled_more : i < n → (r : Route) (list' : List ℕ) (k : ℕ) → r ≡ read_at w file at
      → list' ≡ store_route list i r → k ≡ size_for r.len
      → Filled w file list₀ n list' (at + k) (i + 1)
  unfolding read_at
  filled_more h r list' k r-is list-is k-is = record {
    at_place = ap₂ (λ (p q : ℕ). p + q) so.at_place (k-is ∙ ap (λ (y : Route). size_for y.len) route_is) ∙ sym (place_more file i);
    same = ap length stored ∙ simp length-set so.same;
    written =
        stored ∙ ap (λ (l : List ℕ). store_three l (i * 3) r.value r.len r.port) so.written
        ∙ over_three (list_of_routes R i) list₀ r.value r.len r.port (i * 3) (length_list R i) (omega (arith, fits.room))
        ∙ ap (λ (y : Route). over (list_of_routes R i ++ route_words y) list₀) route_is
        ∙ ap (λ (l : List ℕ). over l list₀) (sym (in_order_more route_words R i));
  }
    where
      R : ℕ → Route
      R = file_route w file

      stored : list' ≡ store_three list (i * 3) r.value r.len r.port
      stored = list-is ∙ store_whole_lem list i r (omega (arith, fits.room, so.same))

      route_is : r ≡ R i
      route_is = r-is ∙ ap (read_at w file) so.at_place

  pub filled_all : i ≡ n → list ≡ over (list_of_routes (file_route w file) n) list₀
  filled_all e = so.written ∙ ap (λ (j : ℕ). over (list_of_routes (file_route w file) j) list₀) e
