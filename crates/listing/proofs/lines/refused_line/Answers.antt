use Rattle.std.proofs.Common.{◌++◌, codes, decimal, arith}
use Rattle.listing.specs.Lines.{place_words}
use Rattle.listing.proofs.Lengths.{three, refused_short}
use Rattle.listing.proofs.lines.refused_line.Goals as goal

pub returns : goal.returns
returns c =
    let f = c.args.fault in
    three (codes "refused " ++ decimal f.number) (place_words f.place) (codes "\n") c.new-text.ensures
    c.labelled.ensures.says c.place_words.ensures.says c.put.ensures.says
    (refused_short f (omega arith) c.place_words.ensures.small)
