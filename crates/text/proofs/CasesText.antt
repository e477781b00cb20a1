-- Worked cases: forms of every length, their ends, and names cut inside a character.
use mathlib.Core.Path.{◌≡◌, refl}
use mathlib.Core.List.{[], ◌∷◌}
use Rattle.text.specs.Text.{after_lead, after_follower, place_after, forms_from, characters_of}
use Rattle.std.specs.Prelude.{Some, None}

-- `Zoë 🎧`: nine bytes
pub mixed : characters_of (0x5A ∷ 0x6F ∷ 0xC3 ∷ 0xAB ∷ 0x20 ∷ 0xF0 ∷ 0x9F ∷ 0x8E ∷ 0xA7 ∷ []) ≡ Some 5
unfolding after_lead after_follower place_after forms_from characters_of
mixed = refl

pub cut_inside : characters_of (0x5A ∷ 0x6F ∷ 0xC3 ∷ 0xAB ∷ 0x20 ∷ 0xF0 ∷ 0x9F ∷ 0x8E ∷ []) ≡ None
unfolding after_lead after_follower place_after forms_from characters_of
cut_inside = refl

pub lone_follower : characters_of (0x41 ∷ 0x80 ∷ []) ≡ None
unfolding after_lead after_follower place_after forms_from characters_of
lone_follower = refl

-- the last of each length: U+007F, U+07FF, U+FFFF, U+10FFFF
pub last_forms : characters_of (0x7F ∷ 0xDF ∷ 0xBF ∷ 0xEF ∷ 0xBF ∷ 0xBF ∷ 0xF4 ∷ 0x8F ∷ 0xBF ∷ 0xBF ∷ []) ≡ Some 4
unfolding after_lead after_follower place_after forms_from characters_of
last_forms = refl

-- the first behind U+10FFFF, the first surrogate, and U+0000 in two bytes are no text
pub beyond : characters_of (0xF4 ∷ 0x90 ∷ 0x80 ∷ 0x80 ∷ []) ≡ None
unfolding after_lead after_follower place_after forms_from characters_of
beyond = refl

pub surrogate : characters_of (0xED ∷ 0xA0 ∷ 0x80 ∷ []) ≡ None
unfolding after_lead after_follower place_after forms_from characters_of
surrogate = refl

pub overlong : characters_of (0xC0 ∷ 0x80 ∷ []) ≡ None
unfolding after_lead after_follower place_after forms_from characters_of
overlong = refl
