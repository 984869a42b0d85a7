-- The count of the nodes, as the code goes. Assumes nothing.
use mathlib.Core.Path.{◌≡◌, refl, sym, ap, ap₂, ◌∙◌}
use mathlib.Core.Bool.{Bool, true, false, cond, not}
use Prim.Native.Nat.{ℕ, zero, suc, ◌+◌, ◌-◌, ◌*◌, ◌≤◌, ◌<◌}
use native.Mathlib.Omega.{arith}
use native.Mathlib.Nat.{mul-suc, mul-one, zero-add}
use mir.Val.{bool_byte}
use lib.Dec.{ltb}
use borrow.Author.Tests.{le-ltb}
use Rattle.bits.specs.Prefix.{matches}
use Rattle.prefix.specs.Prefixes.{prefix}
use Rattle.prefix.specs.declared.Prefix.{Prefix}
use Rattle.routes.specs.declared.Route.{Route}
use Rattle.image_stretch.specs.Count.{count_at, count_below, sum_of}

-- by the three tests of the code, on the routes that it read
pub count_at_by : (w : ℕ) (R : ℕ → Route) (n l i : ℕ) (r : Route) → r ≡ R i → (a b m : Bool) → ltb l r.len ≡ a → ltb (i + 1) n ≡ b
    → matches w r.value l (R (i + 1)).value ≡ m → count_at w R n l i ≡ cond a (cond b (cond m 0 1) 1) 0
unfolding count_at
count_at_by w R n l i r is a b m p q f =
    ap (λ (x : Route). cond (ltb l x.len) (cond (ltb (i + 1) n) (cond (matches w x.value l (R (i + 1)).value) 0 1) 1) 0) (sym is)
    ∙ rw (p, q, f)

-- the match test, as the code calls it
pub match_found : (w v l : ℕ) (next : Route) {other : Route} → next ≡ other → (p : Prefix) (t c : Bool) → p ≡ prefix v l
    → t ≡ matches w p.value p.len next.value → t ≡ c → matches w v l other.value ≡ c
match_found w v l next is p t c e f g =
    ap (λ (x : Route). matches w v l x.value) (sym is)
    ∙ ap (λ (q : Prefix). matches w q.value q.len next.value) (sym e) ∙ sym f ∙ g

-- a test counted
pub counted_one : (b : Bool) (one k : ℕ) → one ≡ bool_byte b → cond b 1 0 ≡ k → one ≡ k
counted_one true one k e f = e ∙ f
counted_one false one k e f = e ∙ f

pub cond_not : (b : Bool) (x y : ℕ) → cond (not b) x y ≡ cond b y x
cond_not true x y = refl
cond_not false x y = refl

count_below_more : (w : ℕ) (R : ℕ → Route) (n s left l i count one whole : ℕ) → 0 < left → one ≡ count_at w R n l i
    → count + count_below w R n s left l i ≡ whole → count + one + count_below w R n s (left - 1) (l + s) i ≡ whole
unfolding count_below
count_below_more w R n s zero l i count one whole h e f = absurd (omega arith)
count_below_more w R n s (suc left) l i count one whole h e f =
    let z : suc left - 1 ≡ left = omega arith in rw z (omega (arith, e, f))

-- of `end` levels
pub count_level_more : (w : ℕ) (R : ℕ → Route) (n s level end i count one whole : ℕ) → level < end → one ≡ count_at w R n (s * level) i
    → count + count_below w R n s (end - level) (s * level) i ≡ whole → count + one + count_below w R n s (end - (level + 1)) (s * (level + 1)) i ≡ whole
count_level_more w R n s level end i count one whole h e f =
    let p : end - (level + 1) ≡ end - level - 1 = omega arith in
    let q : s * (level + 1) ≡ s * level + s = ap (λ (k : ℕ). s * k) (omega arith) ∙ mul-suc s level in
    ap₂ (λ (k d : ℕ). count + one + count_below w R n s k d i) p q
    ∙ count_below_more w R n s (end - level) (s * level) i count one whole (omega arith) e f

pub count_level_none : (w : ℕ) (R : ℕ → Route) (n s k i : ℕ) → 0 + count_below w R n s k (s * 1) i ≡ count_below w R n s k s i
count_level_none w R n s k i = zero-add _ ∙ ap (λ (d : ℕ). count_below w R n s k d i) (mul-one s)

-- from its length on a route counts for no node
none_past : (w : ℕ) (R : ℕ → Route) (n s left l i : ℕ) → (R i).len ≤ l → count_below w R n s left l i ≡ 0
unfolding count_below count_at
none_past w R n s zero l i h = refl
none_past w R n s (suc left) l i h = rw (le-ltb l (R i).len h) (omega (arith, none_past w R n s left (l + s) i (omega arith)))

pub count_below_past : (w : ℕ) (R : ℕ → Route) (n s left l i count whole : ℕ) (r : Route) → r ≡ R i → r.len ≤ l
    → count + count_below w R n s left l i ≡ whole → count ≡ whole
count_below_past w R n s left l i count whole r is h f =
    omega (arith, f, none_past w R n s left l i (omega (arith, ap (λ (x : Route). x.len) is)))

pub count_below_none : (w : ℕ) (R : ℕ → Route) (n s left l i count whole : ℕ) → left ≤ 0
    → count + count_below w R n s left l i ≡ whole → count ≡ whole
unfolding count_below
count_below_none w R n s zero l i count whole h f = omega (arith, f)
count_below_none w R n s (suc left) l i count whole h f = absurd (omega arith)

pub sum_more : (f : ℕ → ℕ) (n i count one whole : ℕ) → i < n → one ≡ f i → count + sum_of f (n - i) i ≡ whole
    → count + one + sum_of f (n - (i + 1)) (i + 1) ≡ whole
unfolding sum_of
sum_more f n i count one whole h e g =
    let z : n - i ≡ suc (n - (i + 1)) = omega arith in
    omega (arith, e, rw z at g)

pub sum_all : (f : ℕ → ℕ) (n i count whole : ℕ) → n ≤ i → count + sum_of f (n - i) i ≡ whole → count ≡ whole
unfolding sum_of
sum_all f n i count whole h g = let z : n - i ≡ 0 = omega arith in omega (arith, rw z at g)

pub sum_none : (f : ℕ → ℕ) (n : ℕ) → 1 + sum_of f (n - 0) 0 ≡ 1 + sum_of f n 0
sum_none f n = let z : n - 0 ≡ n = omega arith in ap (λ (k : ℕ). 1 + sum_of f k 0) z
