-- The parts of a file as they are stored: a route's prefix and port, and the head. Assumes nothing.
use mathlib.Core.Path.{◌≡◌, refl, ap, ap₂, ◌∙◌}
use mathlib.Core.List.{List, [], ◌∷◌}
use Prim.Native.Nat.{ℕ, ◌+◌, ◌≤◌}
use native.Mathlib.Omega.{arith}
use lib.ListN.{length, set}
use Rattle.promise.specs.Over.{over}
use Rattle.promise.proofs.Over.{over_push, length_over}
use Rattle.octets.specs.Bytes.{digits}
use Rattle.octets.specs.Octets.{prefix_size, prefix_octets, stored}
use Rattle.octets.proofs.Bytes.{length_digits}
use Rattle.octets.proofs.Prefixes.{length_prefix_octets}
use Rattle.octets.proofs.Store.{stored_stored, stored_over}
use Rattle.routes.specs.declared.Route.{Route}
use Rattle.file_rules.specs.File.{version, head_size, size_for, route_bytes, head_of}
use Rattle.file_rules.proofs.Whole.{length_head}

-- the prefix and the port of a route
pub route_stored : (w : ℕ) (file₀ file₁ file₂ : List ℕ) (at k : ℕ) (r : Route) → k ≡ prefix_size r.len
    → at + size_for r.len ≤ length file₀ → file₁ ≡ stored file₀ at (prefix_octets w r.value r.len)
    → file₂ ≡ stored file₁ (at + k) (digits 2 r.port) → file₂ ≡ stored file₀ at (route_bytes w r)
route_stored w file₀ file₁ file₂ at k r k-is room one two =
    let new : List ℕ = prefix_octets w r.value r.len in
    let long : length new ≡ prefix_size r.len = length_prefix_octets w r.value r.len in
    let p : at + k ≡ at + length new = omega (arith, long, k-is) in
    two ∙ ap₂ (λ (f : List ℕ) (i : ℕ). stored f i (digits 2 r.port)) one p
    ∙ stored_stored file₀ at new (digits 2 r.port) (omega (arith, long, length_digits 2 r.port))

-- the version byte and the size
pub head_stored : (file file' : List ℕ) (size : ℕ) → head_size ≤ length file
    → file' ≡ stored (set file 0 version) 1 (digits 4 size) → file' ≡ over (head_of size) file
head_stored file file' size room is =
    is ∙ ap (λ (f : List ℕ). stored f 1 (digits 4 size)) (over_push [] file version 0 refl (omega arith))
    ∙ stored_over (version ∷ []) file (digits 4 size) 1 refl

pub length_over_head : (file : List ℕ) (size : ℕ) → head_size ≤ length file → length (over (head_of size) file) ≡ length file
length_over_head file size room = length_over (head_of size) file (omega (arith, length_head size))
