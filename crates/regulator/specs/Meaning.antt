-- What a regulator is to everything that uses one.
use Rattle.std.specs.Prelude.{◌≡◌, ℕ, ◌+◌, ◌-◌, ◌*◌, ◌≤◌, min, Bool, cond, nat_le}
use Rattle.regulator.specs.declared.bucket.Bucket.{Bucket}
use Rattle.regulator.specs.Ranges.{Between}

-- burst in packets, rate in units a step, frame in units a packet; the allowance is in units
pub record Meaning : Type 0 where
  pub burst : ℕ
  pub rate : ℕ
  pub frame : ℕ
  pub allowance : ℕ

-- the ranges of an admitted table; an allowance is at most full
pub record Lawful (m : Meaning) : Type 0 where
  pub burst : Between 1 64 m.burst
  pub frame : Between 2 1024 m.frame
  pub rate : Between 1 m.frame m.rate
  pub allowance : m.allowance ≤ m.burst * m.frame

-- the same regulator with another allowance
abbrev pub holding : ℕ → Meaning → Meaning
holding l m = record { burst = m.burst; rate = m.rate; frame = m.frame; allowance = l }

-- burst b, rate p, frame q, and all that it may hold
abbrev pub full : ℕ → ℕ → ℕ → Meaning
full b p q = record { burst = b; rate = p; frame = q; allowance = b * q }

abbrev pub covers : Meaning → Bool
covers m = nat_le m.frame m.allowance

-- after a take: a packet's units less if covered, else as it was
abbrev pub taken : Meaning → Meaning
taken m = holding (cond (covers m) (m.allowance - m.frame) m.allowance) m

-- after a step: the rate more, at most full
abbrev pub passed : Meaning → Meaning
passed m = holding (min (m.burst * m.frame) (m.allowance + m.rate)) m

-- a bucket's numbers with an allowance
abbrev pub with_allowance : ℕ → Bucket → Meaning
with_allowance l k = record { burst = k.burst.0; rate = k.rate.0; frame = k.frame.0; allowance = l }

-- the numbers of a regulator that never change
pub record Tells (m : Meaning) (k : Bucket) : Type 0 where
  pub burst : k.burst.0 ≡ m.burst
  pub rate : k.rate.0 ≡ m.rate
  pub frame : k.frame.0 ≡ m.frame

-- a bucket keeps its ranges, whatever the allowance
pub lawful_with : (k : Bucket) (l : ℕ) → l ≤ k.burst.0 * k.frame.0 → Lawful (with_allowance l k)
lawful_with k l within = record { burst = k.bursts; frame = k.frames; rate = k.rates; allowance = within }
