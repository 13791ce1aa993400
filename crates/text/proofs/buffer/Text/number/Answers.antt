use Rattle.std.proofs.Common.{◌≡◌, ◌≤◌, ◌++◌, decimal, length, append-nil, sym, ap, ◌∙◌, arith, length-take}
use Rattle.std.proofs.lemmas.Grind.{common_steps}
use Rattle.std.proofs.lemmas.List.{take_all}
use Rattle.text.specs.Clipped.{clipped}
use Rattle.text.specs.Said.{said}
use Rattle.text.proofs.Clips.{joins_one}
use Rattle.text.proofs.buffer.Text.number.Goals as goal

pub loop-digit-init : goal.loop-digit-init
loop-digit-init c =
    let t = c.args.self.now in
    let room : length (said t) ≤ 8192 = simp length-take (omega (arith, t.few)) in
    sym (ap clipped (append-nil (said t)) ∙ take_all 8192 (said t) room)

pub returns-clause-joins : goal.returns-clause-joins
returns-clause-joins c =
    let t = c.args.self.now in
    let says : said c.loop-digit.self ≡ clipped (said t ++ decimal c.args.n) = grind (arith, common_steps) in
    joins_one (said t) (decimal c.args.n) (said c.loop-digit.self) says
