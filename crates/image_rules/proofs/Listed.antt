-- A valid list of routes has an image, and a lookup there gives the plain scan of the list. Assumes nothing.
use mathlib.Core.Path.{sym, ap, ◌∙◌, subst}
use mathlib.Core.List.{[], Memᴰ}
use Prim.Native.Nat.{ℕ, ◌+◌, ◌/◌, ◌≤◌, ◌<◌}
use native.Mathlib.Omega.{arith}
use lib.ListN.{length}
use Rattle.bits.specs.Bits.{bits}
use Rattle.bits.proofs.Bits.{length_take_bits}
use Rattle.trie.specs.Routes.{Route}
use Rattle.routes.specs.Routes.{bit_route, ValidRoute, ValidList}
use Rattle.lists.specs.Numbered.{list_of}
use Rattle.refusals.specs.Refusals.{found}
use Rattle.routes.specs.Bounds.{last_port}
use Rattle.routes.specs.declared.Route.{Route as ListRoute}
use Rattle.lists.proofs.Numbered.{mem_list_of, map_list_of}
use Rattle.routes.proofs.Held.{bit_at, bits_distinct, scan_is_held}
use Rattle.image_rules.specs.Image.{passed, routes_of, Imaged}
use Rattle.image_rules.specs.Theorems.{ValidImaged, LookupIsListScan}
use Rattle.image_rules.proofs.Image.{lookup_is_scan}

module _ (w : ℕ) (R : ℕ → ListRoute) (n : ℕ) (ok : ValidList w R n) where
  -- a fact of each route of the list
  each : (P : Route → Type 0) → ((r : ListRoute) → ValidRoute w r → P (bit_route w r))
      → (x : Route) → Memᴰ x (list_of (bit_at w R n ok) n 0) → P x
  each P f x m =
      let s = mem_list_of (bit_at w R n ok) n 0 x m in
      subst P (sym s.is) (f (R s.at) (ok.each s.at (omega arith)))

pub valid_imaged : ValidImaged
valid_imaged w R n ok =
    subst (Imaged w) (sym (map_list_of (bit_route w) R n 0)) record {
      distinct = bits_distinct w R n ok n 0 (omega arith);
      ported = each w R n ok (λ x. 0 < x.port) (λ r v. v.some);
      short = each w R n ok (λ x. length x.prefix ≤ w)
          (λ r v. omega (arith, length_take_bits r.len w r.value v.prefix.short, v.prefix.short));
      low = each w R n ok (λ x. x.port ≤ last_port) (λ r v. v.most);
    }

pub lookup_is_list_scan : LookupIsListScan
lookup_is_list_scan w s R n nodes ports a st ok h =
    lookup_is_scan w s (routes_of w R n) nodes ports a st (valid_imaged w R n ok)
    ∙ ap (λ (p : ℕ). found p (passed (routes_of w R n) s (w / s) [] (bits w a) + 1)) (sym (scan_is_held w R n a ok h))
