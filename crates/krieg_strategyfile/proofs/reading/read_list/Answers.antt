use Rattle.std.proofs.Common.{List, Result, subst}
use Rattle.krieg_strategyfile.proofs.Common.{GivesOn, Pos, Side, Place, TextFault}
use Rattle.krieg_strategyfile.proofs.Loops.{listing_same}
use Rattle.krieg_strategyfile.proofs.reading.read_list.Goals as goal

pub returns : goal.returns
returns c =
    subst (λ (r : Result ((Side × List Pos) × Place) TextFault). GivesOn (λ x. (x.0, x.1.items)) c.read_listing.result c.read_listing.new.from r) (listing_same c.args.from.now) c.read_listing.ensures.value
