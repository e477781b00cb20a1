-- 02, C-16: the causes for which a setting is refused, and its one length.
use lib.Dec.{eqb}
use Rattle.reading.specs.Message.{body_at}
use Rattle.reading.specs.Reading.{by_kind}
use Rattle.reading.proofs.LawsReading.{OneLength, layout_length, Causes, layout_causes, whole_accepted, whole_19, whole_pick}
use Rattle.payload.specs.Setting.{setting_contents, setting_layout, setting_of}

pub setting_length : OneLength setting_of
unfolding setting_of
setting_length = layout_length setting_layout

pub setting_causes : Causes (λ k. (setting_layout k).serves) (by_kind (λ k. (setting_layout k).len)) setting_of
unfolding setting_of setting_contents
setting_causes = layout_causes setting_layout (λ k. record {
  contents = λ e p. whole_pick (eqb (body_at p 0) 0x00) (whole_pick (eqb (body_at p 1) 0x00) (whole_accepted _) (whole_pick (eqb (body_at p 1) 0x01) (whole_accepted _) whole_19)) whole_19;
})
