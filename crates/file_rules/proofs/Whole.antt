-- The routes of an accepted file are a valid list. Assumes nothing.
use mathlib.Core.Path.{◌≡◌, sym, ap, ap₂, ◌∙◌}
use mathlib.Core.List.{List, ◌++◌}
use Prim.Native.Nat.{ℕ, zero, suc, ◌+◌, ◌^◌, ◌≤◌, ◌<◌}
use native.Mathlib.Omega.{arith}
use lib.ListN.{length, take, drop, length-append}
use lib.Seq.{take-add, drop-drop}
use borrow.Author.Tests.{le-leb}
use Rattle.bits.proofs.Prefix.{clear_first}
use Rattle.octets.specs.Bytes.{digits, Bytes}
use Rattle.octets.specs.Octets.{prefix_size, len_at, value_from, prefix_octets}
use Rattle.octets.proofs.Bytes.{length_digits, digits_taken}
use Rattle.octets.proofs.Prefixes.{length_prefix_octets, prefix_taken, prefix_valid}
use Rattle.routes.specs.Bounds.{most_routes}
use Rattle.routes.specs.declared.Route.{Route}
use Rattle.routes.proofs.Faults.{Faultless, faultless_valid, faultless_rises}
use Rattle.file_rules.specs.File.{head_size, size_for, port_from, read_at, place_of, file_route, route_bytes, head_of, FileWidth}
use Rattle.file_rules.specs.Check.{file_fault, Entire}
use Rattle.file_rules.specs.Theorems.{FileValid}
use Rattle.file_rules.proofs.Sound.{Sound, fault_none}

pub length_head : (size : ℕ) → length (head_of size) ≡ head_size
length_head size = omega (arith, length_digits 4 size)

-- the bytes of a route are as many as its length says
pub length_route_bytes : (w : ℕ) (r : Route) → length (route_bytes w r) ≡ size_for r.len
length_route_bytes w r =
    length-append (prefix_octets w r.value r.len) (digits 2 r.port)
    ∙ omega (arith, length_prefix_octets w r.value r.len, length_digits 2 r.port)

-- the route at an offset, if it is not cut: the prefix as it is stated and the port write the bytes that stand there
pub route_taken : (w : ℕ) (file : List ℕ) (at : ℕ) → Bytes file → at + size_for (len_at file at) ≤ length file
    → take (size_for (len_at file at)) (drop at file)
    ≡ prefix_octets w (value_from w file (at + 1) (len_at file at)) (len_at file at) ++ digits 2 (port_from file (at + prefix_size (len_at file at)))
route_taken w file at bytes uncut =
    let k = prefix_size (len_at file at) in
    take-add k 2 (drop at file)
    ∙ ap₂ (λ (a b : List ℕ). a ++ b) (prefix_taken w file at bytes (omega arith))
    (ap (take 2) (drop-drop k at file) ∙ sym (digits_taken file (at + k) 2 bytes (omega arith)))

value_lt : (w : ℕ) (file : List ℕ) (at : ℕ) → FileWidth w → Bytes file → Entire w file at → (read_at w file at).value < 2 ^ w
unfolding read_at
value_lt w file at wide bytes entire =
    (prefix_valid w file at bytes (omega (arith, entire.uncut)) wide.whole entire.short).fits

sound_faultless : (w : ℕ) (file : List ℕ) (i : ℕ) → Sound w file i → Faultless w (file_route w file) i
unfolding read_at
sound_faultless w file i ok = record {
  short = le-leb (len_at file (place_of file i)) w ok.entire.short;
  zeros = clear_first w (value_from w file (place_of file i + 1) (len_at file (place_of file i))) (len_at file (place_of file i));
  ported = ok.ported;
  rises = ok.rises;
}

pub file_valid : FileValid
file_valid w file n wide bytes ok = record {
  few = few n ok.none;
  each = λ i h.
      let s = sound i h in
      faultless_valid w (file_route w file) i (value_lt w file (place_of file i) wide bytes s.entire) (sound_faultless w file i s);
  rises = λ i h. faultless_rises w (file_route w file) i (sound_faultless w file (i + 1) (sound (i + 1) h));
}
  where
    sound : (i : ℕ) → i < n → Sound w file i
    sound i h = fault_none w file i (ok.none i h)

    few : (n : ℕ) → ((j : ℕ) → j < n → file_fault w file j ≡ 0) → n ≤ most_routes
    few zero none = omega arith
    few (suc n) none = omega (arith, (fault_none w file n (none n (omega arith))).few)
