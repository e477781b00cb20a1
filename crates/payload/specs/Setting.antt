-- 01, "Messages and decoders": `decode_general_setting_param`.
use Rattle.std.specs.Prelude.{ℕ, true, false, List, [], eqb}
use Rattle.base.specs.Outcome.{Outcome, accepted, refused, pick}
use Rattle.reading.specs.Message.{kind_of, body_at}
use Rattle.reading.specs.Reading.{Layout, layout, layout_reading}
use Rattle.payload.specs.declared.setting.GeneralSettingParam.{GeneralSettingParam}

-- "body `00` then `00` on or `01` off"
unfoldable pub setting_contents : List ℕ → Outcome GeneralSettingParam
setting_contents p =
    pick (eqb (body_at p 0) 0x00)
    (pick (eqb (body_at p 1) 0x00) (accepted (record { slot = kind_of p; enabled = true }))
    (pick (eqb (body_at p 1) 0x01) (accepted (record { slot = kind_of p; enabled = false }))
    (refused 19 [])))
    (refused 19 [])

-- "any kind (the slot)", and two bytes of body
abbrev pub setting_layout : ℕ → Layout GeneralSettingParam
setting_layout kind = layout 4 setting_contents

-- `decode_general_setting_param`
unfoldable pub setting_of : List ℕ → Outcome GeneralSettingParam
setting_of = layout_reading setting_layout
