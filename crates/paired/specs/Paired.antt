-- 01, "Messages and decoders": `decode_paired_devices`, a device by its index.
use Rattle.std.specs.Prelude.{ℕ, ◌+◌, List, [], get_or, take, drop, ltb, eqb}
use Rattle.base.specs.Outcome.{Outcome, accepted, refused, pick}
use Rattle.reading.specs.Items.{headed, counted, item_at}
use Rattle.reading.specs.Reading.{count_reading}
use Rattle.text.specs.Text.{characters_of}
use Rattle.paired.specs.declared.paired.PairedDevice.{PairedDevice}

-- "17 address bytes, status, three detail bytes, name length, name": a head of 21 bytes, then the name by its length
abbrev pub name_length : List ℕ → ℕ → ℕ
name_length payload at = get_or payload (at + 21) 0

abbrev pub device_end : List ℕ → ℕ → ℕ
device_end payload at = at + headed 21 payload at

-- "kind `02`; count, then per device ..; then exactly one byte more. The answer is the count"
abbrev pub paired_of : List ℕ → Outcome ℕ
paired_of = count_reading (λ kind. eqb kind 0x02) 2 (headed 21) 1

-- where the device of an index begins
abbrev pub start_of : List ℕ → ℕ → ℕ
start_of payload index = item_at (counted 2 (headed 21) 1 payload) payload index

-- "a lookup by index gives one device. Addresses and names are raw bytes, given by offset and length in the payload"; 02, C-13:
-- "Device lookup .. carry that number on": the device that begins at `at`
abbrev pub device_at : List ℕ → ℕ → PairedDevice
device_at payload at = record {
  address = at;
  status = get_or payload (at + 17) 0;
  detail0 = get_or payload (at + 18) 0;
  detail1 = get_or payload (at + 19) 0;
  detail2 = get_or payload (at + 20) 0;
  name = at + 22;
  len = name_length payload at;
  characters = characters_of (take (name_length payload at) (drop (at + 22) payload));
}

-- the device of an index
abbrev pub device_of : List ℕ → ℕ → PairedDevice
device_of payload index = device_at payload (start_of payload index)

-- what the decoder tries, then 21 for an index not below the count
abbrev pub lookup_by : Outcome ℕ → List ℕ → ℕ → Outcome PairedDevice
lookup_by (refused n vs) payload index = refused n vs
lookup_by (accepted count) payload index =
    pick (ltb index count) (accepted (device_of payload index)) (refused 21 [])

unfoldable pub lookup_of : List ℕ → ℕ → Outcome PairedDevice
lookup_of payload index = lookup_by (paired_of payload) payload index
