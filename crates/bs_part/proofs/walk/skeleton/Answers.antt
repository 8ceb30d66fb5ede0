use Rattle.std.proofs.Common.{◌∙◌}
use Rattle.bs_part.proofs.Items.{skeleton_valid, skeleton_of_code}
use Rattle.bs_part.proofs.walk.skeleton.Goals as goal

pub of_level_sequence-requires : goal.of_level_sequence-requires
of_level_sequence-requires c =
    skeleton_valid c.args.code.now c.args.kept.now c.as_slice.result.now c.skeleton_pairs-pairs.ensures.code c.requires (c.as_slice.ensures.value ∙ c.skeleton_pairs-pairs.ensures.value)

pub returns : goal.returns
returns c =
    skeleton_of_code c.args.code.now c.args.kept.now c.as_slice.result.now c.of_level_sequence.result c.skeleton_pairs-pairs.ensures.code c.requires
    (c.as_slice.ensures.value ∙ c.skeleton_pairs-pairs.ensures.value) c.of_level_sequence.ensures
