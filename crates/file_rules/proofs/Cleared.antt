-- The file of an accepted file's routes is that file with its spare bits cleared. Assumes nothing.
use mathlib.Core.Path.{◌≡◌, refl, sym, ap, ap₂, ◌∙◌}
use mathlib.Core.Logic.{⊎_elim}
use mathlib.Core.Bool.{true, false}
use mathlib.Core.List.{List, [], ◌∷◌, ◌++◌, append-nil, append_assoc}
use Prim.Native.Nat.{ℕ, zero, suc, ◌+◌, ◌-◌, ◌*◌, ◌/◌, ◌%◌, ◌^◌, ◌≤◌, ◌<◌}
use native.Mathlib.Omega.{arith}
use native.Mathlib.Nat.{mod-le, mul_assoc}
use lib.Dec.{eqb}
use lib.Pow.{pow-add, split, shl-shr, shr-shr, mod-mod-pow}
use lib.ListN.{length, get_or, set, take, drop, length-append, length-set, take-append-drop, get_or-append}
use lib.Seq.{take-add, take-length, drop-cons, length-take-le, get_or-drop, get_or-set_same, get_or-set_other, set-get_or, set-append_left, take-set-le, take-set-lt, drop-set-lt, drop-set-add}
use borrow.Author.Tests.{eqb-true, eqb-false}
use Rattle.lists.proofs.Tests.{way}
use Rattle.lists.specs.Numbered.{in_order}
use Rattle.routes.specs.declared.Route.{Route}
use Rattle.octets.specs.Bytes.{number, digits, Bytes}
use Rattle.octets.specs.Octets.{prefix_bytes, prefix_size, bits_after, len_at}
use Rattle.octets.proofs.Bytes.{length_digits, digits_cleared, last_digit, digits_taken}
use Rattle.file_rules.specs.File.{head_size, stated_size, size_for, port_from, read_at, place_of, file_route, route_bytes, body_of, head_of, FileWidth}
use Rattle.file_rules.specs.Check.{Entire, Whole}
use Rattle.file_rules.specs.Cleared.{spare_count, last_byte, spare_at, cleared_file, SpareZero}
use Rattle.file_rules.specs.Theorems.{FileCleared, ClearedLength, ClearedSame, FileSame}
use Rattle.file_rules.proofs.Sound.{fault_none}
use Rattle.file_rules.proofs.Whole.{route_taken}

-- the length byte and the bytes of a prefix: where the last one loses its last s bits, their number does
last_cleared : (len q s x b : ℕ) → s ≤ 8 → (q ≡ 0 → s ≡ 0) → b ≡ get_or (len ∷ digits q x) q 0
    → set (len ∷ digits q x) q (b - b % 2 ^ s) ≡ len ∷ digits q (x - x % 2 ^ s)
unfolding digits
last_cleared len zero s x b h none b-is = ap (λ (a : ℕ). a ∷ []) (rw (none refl) (omega (arith, b-is)))
last_cleared len (suc k) s x b h none b-is =
    let byte : b ≡ x % 2 ^ 8 = b-is ∙ last_digit k x in
    let z : 8 - s + s ≡ 8 = omega arith in
    let low : b % 2 ^ s ≡ x % 2 ^ s = rw (byte, ← mod-mod-pow x (8 - s) s, z) in
    ap (λ (bs : List ℕ). len ∷ bs)
    (ap (λ (a : ℕ). set (digits (suc k) x) k a) (ap₂ (λ (u v : ℕ). u - v) byte low) ∙ sym (digits_cleared k s x h))

-- the route at an offset where a whole one stands
module _ (w : ℕ) (file : List ℕ) (at : ℕ) (wide : FileWidth w) (bytes : Bytes file) (entire : Entire w file at) where
  abbrev len : ℕ
  len = len_at file at

  abbrev q : ℕ
  q = prefix_bytes len

  abbrev gap : ℕ
  gap = bits_after w len

  abbrev s : ℕ
  s = spare_count len

  -- the number that its prefix bytes write
  abbrev x : ℕ
  x = number (take q (drop (at + 1) file))

  -- clearing keeps the bits of these bytes down to the length
  kept_bits : (read_at w file at).value / 2 ^ gap ≡ x - x % 2 ^ s
  unfolding read_at
  kept_bits =
      let e : w - len ≡ gap + s = omega (arith, wide.whole, entire.short) in
      let c : gap + s ≡ s + gap = omega arith in
      let head : x * 2 ^ gap / 2 ^ (gap + s) ≡ x / 2 ^ s = sym (shr-shr (x * 2 ^ gap) gap s) ∙ ap (λ (y : ℕ). y / 2 ^ s) (shl-shr x gap) in
      let value : (read_at w file at).value ≡ x / 2 ^ s * 2 ^ s * 2 ^ gap =
      ap (λ (k : ℕ). x * 2 ^ gap / 2 ^ k * 2 ^ k) e
      ∙ ap₂ (λ (y k : ℕ). y * k) head (ap (λ (k : ℕ). 2 ^ k) c ∙ pow-add 2 s gap) ∙ sym (mul_assoc (x / 2 ^ s) (2 ^ s) (2 ^ gap)) in
      ap (λ (y : ℕ). y / 2 ^ gap) value ∙ shl-shr (x / 2 ^ s * 2 ^ s) gap ∙ omega (arith, split x s)

  -- the bytes up to the last one of the prefix, as stated, and those of the port
  abbrev front : List ℕ
  front = len ∷ digits q x

  abbrev port : List ℕ
  port = digits 2 (port_from file (at + prefix_size len))

  stated_bytes : take (size_for len) (drop at file) ≡ front ++ port
  stated_bytes = route_taken w file at bytes entire.uncut ∙ ap (λ (y : ℕ). (len ∷ digits q y) ++ port) (shl-shr x gap)

  last_is : get_or file (last_byte file at) 0 ≡ get_or front q 0
  last_is =
      let rest = drop (size_for len) (drop at file) in
      let from : drop at file ≡ front ++ (port ++ rest) =
      sym (take-append-drop (size_for len) (drop at file)) ∙ ap (λ (l : List ℕ). l ++ rest) stated_bytes ∙ append_assoc front port rest in
      sym (get_or-drop at file q 0) ∙ ap (λ (l : List ℕ). get_or l q 0) from
      ∙ get_or-append front (port ++ rest) 0 q (omega (arith, length_digits q x))

  -- it writes the bytes that stand there, with the spare bits cleared
  pub route_cleared : take (size_for len) (drop at (set file (last_byte file at) (get_or file (last_byte file at) 0 - spare_at file at)))
      ≡ route_bytes w (read_at w file at)
  unfolding read_at
  route_cleared =
      let b = get_or file (last_byte file at) 0 in
      ap (take (size_for len)) (drop-set-add at file q (b - spare_at file at))
      ∙ take-set-lt (size_for len) (drop at file) q (b - spare_at file at) (omega arith)
      ∙ ap (λ (l : List ℕ). set l q (b - spare_at file at)) stated_bytes
      ∙ set-append_left front port q (b - spare_at file at) (omega (arith, length_digits q x))
      ∙ ap (λ (l : List ℕ). l ++ port) (last_cleared len q s x b (omega arith) (λ z. omega (arith, z)) last_is)
      ∙ ap (λ (y : ℕ). (len ∷ digits q y) ++ port) (sym kept_bits)

pub cleared_length : ClearedLength
unfolding cleared_file
cleared_length file zero = refl
cleared_length file (suc i) = length-set (cleared_file file i) (last_byte file (place_of file i)) _ ∙ cleared_length file i

-- the last byte of a route's prefix stands before every later route
last_before : (file : List ℕ) (i j : ℕ) → i < j → last_byte file (place_of file i) < place_of file j
unfolding place_of
last_before file i zero h = omega arith
last_before file i (suc j) h =
    ⊎_elim
    (λ (t : eqb i j ≡ true). rw (eqb-true i j t) (omega arith))
    (λ (t : eqb i j ≡ false). let n = eqb-false i j t in omega (arith, last_before file i j (omega arith)))
    (way (eqb i j))

-- from route i on, the file with the routes before cleared is the file
cleared_rest : (file : List ℕ) (i k : ℕ) → k ≤ i → drop (place_of file i) (cleared_file file k) ≡ drop (place_of file i) file
unfolding cleared_file
cleared_rest file i zero h = refl
cleared_rest file i (suc k) h =
    drop-set-lt (place_of file i) (cleared_file file k) (last_byte file (place_of file k)) _ (last_before file k i (omega arith))
    ∙ cleared_rest file i k (omega arith)

-- an accepted file, cleared
module _ (w : ℕ) (file : List ℕ) (n : ℕ) (wide : FileWidth w) (bytes : Bytes file) (ok : Whole w file n) where
  abbrev R : ℕ → Route
  R i = file_route w file i

  -- up to route i it is the head and the bytes of the routes before
  cleared_taken : (i : ℕ) → i ≤ n → take (place_of file i) (cleared_file file i) ≡ take head_size file ++ body_of w R i
  unfolding place_of cleared_file in_order
  cleared_taken zero h = sym (append-nil (take head_size file))
  cleared_taken (suc i) h =
      let at = place_of file i in
      let C = cleared_file file i in
      let last = last_byte file at in
      let b = get_or file last 0 - spare_at file at in
      let q = prefix_bytes (len_at file at) in
      let rest : drop at (set C last b) ≡ drop at (set file last b) =
      drop-set-add at C q b ∙ ap (λ (l : List ℕ). set l q b) (cleared_rest file i i (omega arith)) ∙ sym (drop-set-add at file q b) in
      take-add at (size_for (len_at file at)) (set C last b)
      ∙ ap₂ (λ (u v : List ℕ). u ++ v)
      (take-set-le at C last b (omega arith) ∙ cleared_taken i (omega arith))
      (ap (take (size_for (len_at file at))) rest ∙ route_cleared w file at wide bytes (fault_none w file i (ok.none i (omega arith))).entire)
      ∙ append_assoc (take head_size file) (body_of w R i) (route_bytes w (R i))

  cleared_is : cleared_file file n ≡ take head_size file ++ body_of w R n
  cleared_is =
      sym (take-length (cleared_file file n)) ∙ ap (λ (k : ℕ). take k (cleared_file file n)) (cleared_length file n ∙ sym ok.end)
      ∙ cleared_taken n (omega arith)

  body_size : length (body_of w R n) ≡ stated_size file
  body_size =
      let h = ok.headed in
      let l : length (take head_size file) ≡ head_size = length-take-le head_size file h.long in
      omega (arith, sym (cleared_length file n) ∙ ap length cleared_is ∙ length-append (take head_size file) (body_of w R n), l, h.sized)

  head_taken : take head_size file ≡ head_of (length (body_of w R n))
  head_taken =
      let h = ok.headed in
      take-add 1 4 file
      ∙ ap₂ (λ (a b : List ℕ). a ++ b)
      (ap (take 1) (drop-cons file 0 0 (omega (arith, h.long))) ∙ ap (λ (b : ℕ). b ∷ []) h.versioned)
      (sym (digits_taken file 1 4 bytes (omega (arith, h.long))) ∙ ap (digits 4) (sym body_size))

pub file_cleared : FileCleared
file_cleared w file n wide bytes ok =
    sym (cleared_is w file n wide bytes ok ∙ ap (λ (a : List ℕ). a ++ body_of w (file_route w file) n) (head_taken w file n wide bytes ok))

-- where no bit is set, nothing is cleared
spare_none : (file : List ℕ) (n : ℕ) → SpareZero file n → cleared_file file n ≡ file
unfolding cleared_file
spare_none file zero none = refl
spare_none file (suc i) none =
    let last = last_byte file (place_of file i) in
    let b : get_or file last 0 - spare_at file (place_of file i) ≡ get_or file last 0 = omega (arith, none i (omega arith)) in
    ap₂ (λ (l : List ℕ) (a : ℕ). set l last a) (spare_none file i (λ j h. none j (omega arith))) b ∙ set-get_or file last 0

-- what becomes of the last byte of route i's prefix
cleared_last : (file : List ℕ) (n i : ℕ) → i < n → place_of file n ≤ length file
    → get_or (cleared_file file n) (last_byte file (place_of file i)) 0 ≡ get_or file (last_byte file (place_of file i)) 0 - spare_at file (place_of file i)
unfolding cleared_file place_of
cleared_last file zero i h fits = absurd (omega arith)
cleared_last file (suc n) i h fits =
    ⊎_elim
    (λ (t : eqb i n ≡ true).
    rw (eqb-true i n t)
    (get_or-set_same (cleared_file file n) (last_byte file (place_of file n)) _ 0 (omega (arith, cleared_length file n, fits))))
    (λ (t : eqb i n ≡ false).
    let below : i < n = let ne = eqb-false i n t in omega arith in
    get_or-set_other (cleared_file file n) (last_byte file (place_of file n)) (last_byte file (place_of file i)) _ 0
    (λ e. omega (arith, e, last_before file i n below))
    ∙ cleared_last file n i below (omega arith))
    (way (eqb i n))

pub cleared_same : ClearedSame
cleared_same w file n ok = (
  λ same i h.
      let last = last_byte file (place_of file i) in
      omega (arith, cleared_last file n i h (omega (arith, ok.end)), ap (λ (l : List ℕ). get_or l last 0) same, mod-le (get_or file last 0) (2 ^ spare_count (len_at file (place_of file i)))),
  spare_none file n,
)

pub file_same : FileSame
file_same w file n wide bytes ok none = file_cleared w file n wide bytes ok ∙ spare_none file n none
