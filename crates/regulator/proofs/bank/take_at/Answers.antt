use Rattle.std.proofs.Common.{set, ap, ◌∙◌}
use Rattle.std.proofs.lemmas.List.{set-get_or}
use Rattle.regulator.specs.Meaning.{covers, taken}
use Rattle.regulator.proofs.Rows.{at_by, write_by, nth_set_other}
use Rattle.regulator.proofs.bank.take_at.Goals as goal

pub returns-then-place-bank : goal.returns-then-place-bank
returns-then-place-bank g c =
    let m = g.R.Regulator.meaning in
    let within = c.if-place-bank.true in
    record {
      answer = c.take.ensures.answer ∙ ap covers (at_by m _ _ _ _ within);
      after = write_by m taken _ _ _ _ _ within c.take.ensures.after;
      others = λ k other. nth_set_other _ _ k _ other;
      stays = λ no. ap (set c.args.bank.now c.args.place) (c.take.ensures.stays no) ∙ set-get_or _ _ _;
    }
