-- Tokens and a phase. q: frame, t: tokens, h: phase, b: burst, p: rate.
use Rattle.std.specs.Prelude.{◌≡◌, ℕ, zero, suc, ◌+◌, ◌-◌, ◌*◌, ◌<◌, ◌≤◌, min, nat_le, nat_lt}
use Rattle.std.proofs.Common.{sym, ap, ◌∙◌, ⊎_elim, suc-mul, zero-mul, mul-le-mul_right, add-one, arith}
use Rattle.std.proofs.lemmas.Bool.{lt-ltb, le-leb, lt-leb, cases_lt}

pub covers_by : (q t h : ℕ) → h < q → nat_lt 0 t ≡ nat_le q (t * q + h)
covers_by q zero h part = sym (lt-leb q (0 * q + h) (omega (arith, zero-mul q)))
covers_by q (suc t) h part = lt-ltb 0 (suc t) (omega arith) ∙ sym (le-leb q (suc t * q + h) (omega (arith, suc-mul t q)))

one_more : (q t : ℕ) → (t + 1) * q ≡ t * q + q
one_more q t = ap (λ n. n * q) (add-one t) ∙ suc-mul t q

pub one_less : (q t h : ℕ) → 0 < t → t * q + h - q ≡ (t - 1) * q + h
one_less q zero h some = absurd (omega arith)
one_less q (suc t) h some = let back : suc t - 1 ≡ t = omega arith in rw back (omega (arith, suc-mul t q))

pub at_most : (q t h b : ℕ) → t ≤ b → h < q → (t ≡ b → h ≡ 0) → t * q + h ≤ b * q
at_most q t h b within part brim =
    ⊎_elim
    (λ less. omega (arith, one_more q t, mul-le-mul_right {m = t + 1} {n = b} q (omega arith)))
    (λ more. omega (arith, brim (omega arith), mul-le-mul_right {m = t} {n = b} q within))
    (cases_lt t b)

-- after a step, with n as the new phase: a full bucket stays
pub stays : (q t h b p : ℕ) → t ≡ b → h ≡ 0 → t * q + h ≡ min (b * q) (t * q + h + p)
stays q t h b p full none = let e : t * q ≡ b * q = ap (λ k. k * q) full in omega (arith, e)

-- the phase rises
pub rises : (q t h b p n : ℕ) → t < b → n ≡ h + p → n < q → t * q + n ≡ min (b * q) (t * q + h + p)
rises q t h b p n less sum part = omega (arith, one_more q t, mul-le-mul_right {m = t + 1} {n = b} q (omega arith))

-- the last token leaves no phase
pub fills : (q t h b p n : ℕ) → t + 1 ≡ b → q ≤ h + p → n ≡ 0 → (t + 1) * q + n ≡ min (b * q) (t * q + h + p)
fills q t h b p n full over none = let e : (t + 1) * q ≡ b * q = ap (λ k. k * q) full in omega (arith, one_more q t, e)

-- any other token leaves the rest
pub refills : (q t h b p n : ℕ) → t + 1 < b → h < q → p ≤ q → q ≤ h + p → n ≡ h + p - q → (t + 1) * q + n ≡ min (b * q) (t * q + h + p)
refills q t h b p n less part rate over rest =
    omega (arith, one_more q t, one_more q (t + 1), mul-le-mul_right {m = t + 1 + 1} {n = b} q (omega arith))
