use Rattle.std.proofs.Common.{◌≡◌, ◌<◌, length, get_or, sym, ap, subst, ◌∙◌, arith}
use Rattle.std.proofs.lemmas.List.{get_or-map}
use Rattle.least.specs.Systems.{entries_of, Capped}
use Rattle.bounds.specs.Bounds.{ceiling}
use Rattle.bounds.specs.Lines.{line_of, line_at}
use Rattle.bounds.proofs.lines.system.LinesSystem.evaluate.Goals as goal

pub returns : goal.returns
returns c =
    let s = c.args.self.now in
    let x = entries_of c.args.entries.now in
    let within : c.args.i < length s.lines = omega (arith, c.requires.within, s.few, s.whole) in
    let l = c.index-self-i.result in
    let line : c.value.result ≡ line_at s x c.args.i =
    c.value.ensures ∙ (ap (λ n. line_of n x (get_or s.lines c.args.i l)) c.requires.long ∙ sym (get_or-map (line_of s.count x) s.lines c.args.i l 0 within)) in
    subst (λ v. Capped v ceiling c.capped.result) line c.capped.ensures
