use Rattle.std.proofs.Common.{◌≡◌, ◌++◌, take}
use Rattle.text.specs.Clipped.{clipped}
use Rattle.text.specs.Said.{said}
use Rattle.text.proofs.buffer.Text.number.Given as goal

abbrev pub invariant-loop-digit : goal.invariant-loop-digit
invariant-loop-digit l = said l.self ≡ clipped (said l.initial.self ++ take l.digit-index l.digits)
