-- Text written one after the other. Assumes nothing.
use mathlib.Core.Path.{◌≡◌, refl, sym, ap, ◌∙◌}
use mathlib.Core.List.{List, [], ◌∷◌, ◌++◌, append_assoc, append-nil}
use Prim.Native.Nat.{ℕ, ◌+◌, ◌-◌, ◌≤◌, ◌<◌}
use native.Mathlib.Omega.{arith}
use lib.ListN.{length, get_or, set, take, drop, length-append, take-append-drop}
use native.Mathlib.Numerals.{add-one}
use lib.Seq.{drop-drop, take-suc, take_all, take-suc-set, drop-set-lt}
use Rattle.promise.specs.Over.{over}
use Rattle.page.specs.Needs.{Wrote}

module _ {out : List ℕ} {at : ℕ} where
  -- a text, and one after it
  pub wrote_more : {a b left left' : List ℕ} {m n : ℕ} → Wrote out at a m left → Wrote left m b n left' → Wrote out at (a ++ b) n left'
  wrote_more {a} {b} {left} {left'} {m} {n} p q = record {
    next_is_lem = omega (arith, p.next_is_lem, q.next_is_lem, length-append a b);
    written = q.written ∙ ap (λ (l : List ℕ). l ++ b) p.written ∙ append_assoc (take at out) a b;
    rest =
        let z : m + (n - m) ≡ n = omega (arith, q.next_is_lem) in
        q.rest ∙ ap (λ (j : ℕ). drop j left) (sym z) ∙ sym (drop-drop (n - m) m left)
        ∙ ap (drop (n - m)) p.rest ∙ drop-drop (n - m) m out ∙ ap (λ (j : ℕ). drop j out) z;
  }

  -- one byte
  pub wrote_byte : (b : ℕ) → at < length out → Wrote out at (b ∷ []) (at + 1) (set out at b)
  wrote_byte b h = record {
    next_is_lem = refl;
    written = rw (add-one at) (take-suc-set out at b h);
    rest = drop-set-lt (at + 1) out at b (omega arith);
  }

  -- no text
  pub wrote_none : Wrote out at [] at out
  wrote_none = record { next_is_lem = omega arith; written = sym (append-nil (take at out)); rest = refl }

-- the text as another list
pub wrote_as : {out a left : List ℕ} {at next : ℕ} (b : List ℕ) → Wrote out at a next left → a ≡ b → Wrote out at b next left
wrote_as b p e = rw (← e) p

-- the bytes of a slice, one more
pub wrote_next : {out left left' : List ℕ} {at m n : ℕ} (bytes : List ℕ) (i : ℕ) → i < length bytes → Wrote out at (take i bytes) m left
    → Wrote left m (get_or bytes i 0 ∷ []) n left' → Wrote out at (take (i + 1) bytes) n left'
wrote_next bytes i h p q = wrote_as (take (i + 1) bytes) (wrote_more p q) (sym (rw (add-one i) (take-suc bytes i 0 h)))

pub wrote_all : {out left : List ℕ} {at n : ℕ} (bytes : List ℕ) (i : ℕ) → length bytes ≤ i → Wrote out at (take i bytes) n left
    → Wrote out at bytes n left
wrote_all bytes i h p = wrote_as bytes p (take_all i bytes h)

-- a text from the front on
pub wrote_over : {out text left : List ℕ} {next : ℕ} → Wrote out 0 text next left → left ≡ over text out
wrote_over {out} {text} {left} {next} p =
    let e : next ≡ length text = omega (arith, p.next_is_lem) in
    sym (take-append-drop next left) ∙ ap (λ (l : List ℕ). l ++ drop next left) p.written
    ∙ ap (λ (l : List ℕ). text ++ l) p.rest ∙ ap (λ (j : ℕ). text ++ drop j out) e
