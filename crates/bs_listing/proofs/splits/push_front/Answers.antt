use Rattle.bs_listing.proofs.Fronts.{front_on, front_either}
use Rattle.bs_listing.proofs.splits.push_front.Goals as goal

pub returns-clause-front : goal.returns-clause-front
returns-clause-front g c =
    front_on (front_either c.write_line.result c.args.out.now.items _ c.write_line.new.out.items c.write_line.ensures.written c.write_line.ensures.unchanged)
    (front_either c.write_line-2.result c.write_line.new.out.items _ c.write_line-2.new.out.items c.write_line-2.ensures.written c.write_line-2.ensures.unchanged)
