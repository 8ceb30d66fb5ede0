use Rattle.std.proofs.Common.{sym}
use Rattle.bs_make.proofs.Texts.{tree_written}
use Rattle.bs_make.proofs.make.write_tree.Goals as goal

pub returns-clause-written : goal.returns-clause-written
returns-clause-written c =
    tree_written c.args.out.now.items c.extend_from_slice.new.self.items c.write_name.new.out.items c.extend_from_slice-2.new.self.items
    c.write_further.new.out.items _ c.args.j c.args.generator.now c.in_ok-extend_from_slice.ensures.items c.in_ok-write_name.ensures
    c.in_ok-extend_from_slice-2.ensures.items (rw (sym c.draw.ensures.drawn, sym c.draw.ensures.next) c.in_ok-write_further.ensures.written) c.in_ok-extend_from_slice-3.ensures.items
