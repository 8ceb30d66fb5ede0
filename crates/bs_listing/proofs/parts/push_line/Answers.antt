use Rattle.bs_listing.proofs.Fronts.{front_on, front_if}
use Rattle.bs_listing.proofs.parts.push_line.Goals as goal

pub returns-in_err-push_tree-clause-front : goal.returns-in_err-push_tree-clause-front
returns-in_err-push_tree-clause-front g c = front_on c.push_head.ensures.front c.push_tree.ensures.front

pub returns-in_err-extend_from_slice-clause-front : goal.returns-in_err-extend_from_slice-clause-front
returns-in_err-extend_from_slice-clause-front g c =
    front_on (front_on c.push_head.ensures.front c.push_tree.ensures.front)
    (front_if c.extend_from_slice.result c.push_tree.new.out.items c.args.others.now c.extend_from_slice.new.self.items c.extend_from_slice.ensures.items)

pub returns-clause-front : goal.returns-clause-front
returns-clause-front g c =
    let mid = c.extend_from_slice.new.self.items in
    let first =
    front_on (front_on c.push_head.ensures.front c.push_tree.ensures.front)
    (front_if c.extend_from_slice.result c.push_tree.new.out.items c.args.others.now mid c.extend_from_slice.ensures.items) in
    front_on first (front_if c.extend_from_slice-2.result mid c.args.end.now c.extend_from_slice-2.new.self.items c.extend_from_slice-2.ensures.items)
