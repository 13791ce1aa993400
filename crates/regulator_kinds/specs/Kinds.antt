-- What a value of each kind means.
use Rattle.std.specs.Prelude.{◌+◌, ◌*◌}
use Rattle.regulator_kinds.specs.declared.one_level.OneLevel.{OneLevel}
use Rattle.regulator_kinds.specs.declared.two_counter.TwoCounter.{TwoCounter}
use Rattle.regulator.specs.Meaning.{Meaning, with_allowance}

abbrev pub one_level : OneLevel → Meaning
one_level r = with_allowance r.level.0 r.bucket

abbrev pub two_counter : TwoCounter → Meaning
two_counter r = with_allowance (r.tokens.0 * r.bucket.frame.0 + r.phase.0) r.bucket
