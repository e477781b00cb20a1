-- Worked cases: a payload with both texts, and the smallest of each row in docs/DIFFERENCES.md.
use mathlib.Core.Path.{◌≡◌, refl}
use mathlib.Core.List.{[], ◌∷◌}
use Rattle.base.specs.Outcome.{accepted, refused}
use Rattle.reading.specs.Items.{walk}
use Rattle.reading.specs.Reading.{reading_of}
use Rattle.text.specs.Text.{after_lead, after_follower, place_after, forms_from, characters_of}
use Rattle.setting_info.specs.SettingInfo.{info_contents, info_of}

-- the name `A`, the summary `é`
pub both_texts : info_of (0xD1 ∷ 0xD2 ∷ 0x00 ∷ 0x01 ∷ 0x01 ∷ 0x41 ∷ 0x02 ∷ 0xC3 ∷ 0xA9 ∷ [])
    ≡ accepted (record { slot = 0xD2; name = record { offset = 5; len = 1; characters = 1 }; summary = record { offset = 7; len = 2; characters = 1 } })
unfolding reading_of walk info_contents info_of after_lead after_follower place_after forms_from characters_of
both_texts = refl

-- the Rust counts three bytes for the `FF` and refuses
pub name_repaired : info_of (0xD1 ∷ 0xD1 ∷ 0x00 ∷ 0x00 ∷ 0x01 ∷ 0xFF ∷ 0x00 ∷ []) ≡ refused 23 []
unfolding reading_of walk info_contents info_of after_lead after_follower place_after forms_from characters_of
name_repaired = refl

-- the repaired summary has three bytes again, and the Rust accepts
pub summary_repaired : info_of (0xD1 ∷ 0xD1 ∷ 0x00 ∷ 0x00 ∷ 0x00 ∷ 0x03 ∷ 0xF0 ∷ 0x90 ∷ 0x80 ∷ []) ≡ refused 23 []
unfolding reading_of walk info_contents info_of after_lead after_follower place_after forms_from characters_of
summary_repaired = refl

-- two bytes stand behind the summary; the Rust counts three for its one, and accepts
pub bytes_behind : info_of (0xD1 ∷ 0xD1 ∷ 0x00 ∷ 0x00 ∷ 0x00 ∷ 0x01 ∷ 0xFF ∷ 0x00 ∷ 0x00 ∷ []) ≡ refused 26 []
unfolding reading_of walk info_contents info_of
bytes_behind = refl
