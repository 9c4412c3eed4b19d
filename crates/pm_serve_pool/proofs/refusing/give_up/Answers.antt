use Rattle.std.proofs.Common.{◌∙◌, ap, length, sym}
use Rattle.pm_store_shared.specs.Behind.{Behind}
use Rattle.pm_serve_pool.proofs.Returning.{back_count, opened_alone}
use Rattle.pm_serve_pool.proofs.refusing.give_up.Goals as goal

pub into_segment-requires : goal.into_segment-requires
into_segment-requires g c =
    let back = c.take_all_back.ensures in
    back_count (length c.args.works.items) c.args.shared c.take_all_back.new.shared back ∙ c.requires.all ∙ sym (ap (λ s. s.tokens) back.joined)

pub returns-clause-parts : goal.returns-clause-parts
returns-clause-parts g c first is = (
  c.into_segment.result,
  opened_alone (λ f log. Behind f log c.into_segment.result) (length c.args.works.items) c.args.shared c.take_all_back.new.shared first c.requires.idle c.take_all_back.ensures c.into_segment.ensures is,
  c.into_parts-disk.ensures.0,
  c.into_parts-disk.ensures.1,
)
