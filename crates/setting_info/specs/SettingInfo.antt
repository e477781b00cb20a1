-- 02, C-11: `decode_general_setting_info`; C-13: the characters of its texts.
use Rattle.std.specs.Prelude.{ℕ, ◌+◌, true, List, [], eqb, leb, get_or, take, drop, Option, Some, None}
use Rattle.base.specs.Outcome.{Outcome, accepted, refused, pick}
use Rattle.base.specs.Refusal.{refusal_told}
use Rattle.reading.specs.Message.{kind_of, body_at}
use Rattle.reading.specs.Items.{Size, headed, Items, item_at}
use Rattle.reading.specs.Reading.{reading_of}
use Rattle.text.specs.Text.{characters_of}
use Rattle.setting_info.specs.declared.setting_info.SettingText.{SettingText}
use Rattle.setting_info.specs.declared.setting_info.GeneralSetting.{GeneralSetting}

-- "each a length byte and its bytes"
abbrev pub text_size : Size
text_size = headed 0

-- "then name and summary, .. then the end": two items from body byte 2 on
abbrev pub info_items : List ℕ → Items
info_items payload = record { first = 4; count = 2; size = text_size; behind = 0 }

-- where the length byte of each stands
abbrev pub name_at : ℕ
name_at = 4

abbrev pub summary_at : List ℕ → ℕ
summary_at payload = item_at (info_items payload) payload 1

abbrev pub bytes_at : List ℕ → ℕ → List ℕ
bytes_at payload at = take (get_or payload at 0) (drop (at + 1) payload)

-- "Both texts are given by offset and length in the payload. Lengths count raw bytes"; C-13: "setting texts carry that number on"
abbrev pub text_at : List ℕ → ℕ → ℕ → SettingText
text_at payload at characters = record { offset = at + 1; len = get_or payload at 0; characters = characters }

-- "23, a text outside RFC 3629"; else its number of characters goes on
abbrev pub where_text : {A : Type 0} → Option ℕ → (ℕ → Outcome A) → Outcome A
where_text (Some n) on = on n
where_text None on = refused 23 []

abbrev pub checked_texts : List ℕ → Outcome GeneralSetting
checked_texts p =
    where_text (characters_of (bytes_at p name_at)) (λ n.
    where_text (characters_of (bytes_at p (summary_at p))) (λ m.
    accepted (record { slot = kind_of p; name = text_at p name_at n; summary = text_at p (summary_at p) m })))

-- "slot from the kind, body `00`, a second byte of at most `01`"; the texts are "tried after 19"
unfoldable pub info_contents : List ℕ → Outcome GeneralSetting
info_contents p =
    pick (eqb (body_at p 0) 0x00)
    (pick (leb (body_at p 1) 0x01) (checked_texts p)
    (refused 19 []))
    (refused 19 [])

-- `decode_general_setting_info`
unfoldable pub info_of : List ℕ → Outcome GeneralSetting
info_of = reading_of (λ kind. true) info_items info_contents
