-- The file of a valid list is accepted, and its routes are those of the list. Assumes nothing.
use mathlib.Core.Path.{◌≡◌, refl, sym, ap, ap₂, ◌∙◌}
use mathlib.Core.List.{List, ◌++◌, append_assoc}
use Prim.Native.Nat.{ℕ, zero, suc, ◌+◌, ◌-◌, ◌*◌, ◌^◌, ◌≤◌, ◌<◌}
use native.Mathlib.Omega.{arith}
use lib.ListN.{length, drop, length-append, length-drop}
use lib.Seq.{drop_at}
use Rattle.lists.specs.Numbered.{in_order}
use Rattle.lists.proofs.InOrder.{length_in_order_le, in_order_split}
use Rattle.prefix.specs.declared.Prefix.{Prefix}
use Rattle.octets.specs.Bytes.{digits}
use Rattle.octets.specs.Octets.{prefix_size, len_at, prefix_octets}
use Rattle.octets.proofs.Bytes.{number_back}
use Rattle.octets.proofs.Prefixes.{len_back, rest_back, prefix_back}
use Rattle.routes.specs.Routes.{route, ValidRoute, ValidList}
use Rattle.routes.specs.Check.{is_port, above}
use Rattle.routes.specs.declared.Route.{Route}
use Rattle.routes.proofs.Faults.{valid_faultless}
use Rattle.routes.proofs.Check.{valid_above}
use Rattle.file_rules.specs.File.{head_size, size_for, port_from, read_at, place_of, file_route, route_bytes, body_of, head_of, file_of, FileWidth}
use Rattle.file_rules.specs.Check.{Headed, Whole}
use Rattle.file_rules.specs.Theorems.{FileBack}
use Rattle.file_rules.proofs.Sound.{Sound, none_fault}
use Rattle.file_rules.proofs.Whole.{length_head, length_route_bytes}

-- the bytes of route r stand at an offset of a file
record Stands (w : ℕ) (r : Route) (file : List ℕ) (at : ℕ) : Type 0 where
  after : List ℕ
  is : drop at file ≡ route_bytes w r ++ after

module _ (w : ℕ) (r : Route) (file : List ℕ) (at : ℕ) (s : Stands w r file at) where
  -- its prefix stands there, and then its port
  abbrev ported : List ℕ
  ported = digits 2 r.port ++ s.after

  prefix_stands : drop at file ≡ prefix_octets w r.value r.len ++ ported
  prefix_stands = s.is ∙ append_assoc (prefix_octets w r.value r.len) (digits 2 r.port) s.after

  len_written : len_at file at ≡ r.len
  len_written = len_back w r.value r.len file at ported prefix_stands

  uncut_written : at + size_for (len_at file at) ≤ length file
  uncut_written =
      rw len_written
      (omega (arith, sym (length-drop at file) ∙ ap length s.is ∙ length-append (route_bytes w r) s.after, length_route_bytes w r))

  -- a valid route is read
  read_at_lem : FileWidth w → ValidRoute w r → read_at w file at ≡ r
  unfolding read_at
  read_at_lem wide ok =
      let port : port_from file (at + prefix_size (len_at file at)) ≡ r.port =
      rw len_written
      (number_back file (at + prefix_size r.len) 2 r.port s.after (rest_back w r.value r.len file at ported prefix_stands) (omega (arith, ok.most))) in
      ap₂ (λ (p : Prefix) (n : ℕ). route p.value p.len n)
      (prefix_back w r.value r.len file at ported prefix_stands wide.whole ok.prefix) port

module _ (w : ℕ) (wide : FileWidth w) (R : ℕ → Route) (n : ℕ) (ok : ValidList w R n) where
  abbrev file : List ℕ
  file = file_of w R n

  abbrev size : ℕ
  size = length (body_of w R n)

  -- what stands before route i
  abbrev front : ℕ → List ℕ
  front i = head_of size ++ body_of w R i

  length_front : (i : ℕ) → length (front i) ≡ head_size + length (body_of w R i)
  length_front i = length-append (head_of size) (body_of w R i) ∙ omega (arith, length_head size)

  route_stands : (i : ℕ) → i < n → Stands w (R i) file (head_size + length (body_of w R i))
  route_stands i h =
      let rest = drop (length (body_of w R (i + 1))) (body_of w R n) in
      record {
        after = rest;
        is =
            ap (drop (head_size + length (body_of w R i)))
            (ap (λ (l : List ℕ). head_of size ++ l) (in_order_split (route_bytes w) R i n h)
            ∙ sym (append_assoc (head_of size) (body_of w R i) (route_bytes w (R i) ++ rest)))
            ∙ drop_at (front i) (route_bytes w (R i) ++ rest) (head_size + length (body_of w R i)) (length_front i);
      }

  place_written : (i : ℕ) → i ≤ n → place_of file i ≡ head_size + length (body_of w R i)
  unfolding place_of in_order
  place_written zero h = omega arith
  place_written (suc i) h =
      let at = place_written i (omega arith) in
      let l : len_at file (place_of file i) ≡ (R i).len =
      rw at (len_written w (R i) file (head_size + length (body_of w R i)) (route_stands i (omega arith))) in
      omega (arith, at, ap size_for l, length_route_bytes w (R i), length-append (body_of w R i) (route_bytes w (R i)))

  -- route i stands at its place
  stands : (i : ℕ) → i < n → Stands w (R i) file (place_of file i)
  stands i h = rw (place_written i (omega arith)) (route_stands i h)

  route_written : (i : ℕ) → i < n → file_route w file i ≡ R i
  route_written i h = read_at_lem w (R i) file (place_of file i) (stands i h) wide (ok.each i h)

  above_written : (i : ℕ) → i < n → above (file_route w file) i ≡ above R i
  above_written zero h = refl
  above_written (suc i) h =
      let e : suc i - 1 ≡ i = omega arith in
      rw (e, route_written i (omega arith), route_written (suc i) h)

  sound_written : (i : ℕ) → i < n → Sound w file i
  sound_written i h =
      let r = ok.each i h in
      let v = valid_faultless w R i r (valid_above w R n i ok h) in
      record {
        few = omega (arith, ok.few);
        entire = record {
          short = rw (len_written w (R i) file (place_of file i) (stands i h)) r.prefix.short;
          uncut = uncut_written w (R i) file (place_of file i) (stands i h);
        };
        ported = ap (λ (x : Route). is_port x.port) (route_written i h) ∙ v.ported;
        rises = above_written i h ∙ v.rises;
      }

  -- no more bytes than four bytes can state
  size_small : size < 2 ^ 32
  size_small =
      let le : size ≤ n * 35 =
      length_in_order_le (route_bytes w) R 35 n (λ i h. omega (arith, length_route_bytes w (R i), (ok.each i h).prefix.short, wide.short)) in
      omega (arith, le, ok.few)

  length_file : length file ≡ head_size + size
  length_file = length_front n

  headed_written : Headed file
  headed_written = record {
    long = omega (arith, length_file);
    versioned = refl;
    sized = number_back file 1 4 size (body_of w R n) refl size_small ∙ omega (arith, length_file);
  }

  whole_written : Whole w file n
  whole_written = record {
    headed = headed_written;
    none = λ i h. none_fault w file i (sound_written i h);
    end = place_written n (omega arith) ∙ sym length_file;
  }

pub file_back : FileBack
file_back w R n wide ok = (whole_written w wide R n ok, route_written w wide R n ok)
