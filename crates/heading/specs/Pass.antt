-- What is known of a body while the bytes between a frame's markers go by.
use Rattle.std.specs.Prelude.{ℕ, ◌+◌, ◌-◌, ◌*◌, ◌%◌, true, false, [], ◌∷◌, ◌==◌, nat_lt}
use Rattle.base.specs.Outcome.{Outcome, accepted, refused, pick}
use Rattle.base.specs.DataType.{from_wire}
use Rattle.escaping.specs.Escaping.{SENTRY}
use Rattle.framing.specs.declared.framing.Header.{Header}
use Rattle.heading.specs.declared.pass.Pass.{Pass}

-- nothing yet
abbrev pub begun : Pass
begun = record { sentry = false; count = 0; kind = 0; seq = 0; len0 = 0; len1 = 0; len2 = 0; len3 = 0; sum = 0; last = 0 }

-- one byte of the body more: the first six are the header's, and the sum is that of all but the last
abbrev pub with_byte : Pass → ℕ → Pass
with_byte p b =
    record {
      sentry = false;
      count = (p.count + 1) % 18446744073709551616;
      kind = pick (p.count == 0) b p.kind;
      seq = pick (p.count == 1) b p.seq;
      len0 = pick (p.count == 2) b p.len0;
      len1 = pick (p.count == 3) b p.len1;
      len2 = pick (p.count == 4) b p.len2;
      len3 = pick (p.count == 5) b p.len3;
      sum = (p.sum + p.last) % 256;
      last = b;
    }

-- a SENTRY, which its escapee follows
abbrev pub awaiting : Pass → Pass
awaiting p =
    record {
      sentry = true;
      count = p.count;
      kind = p.kind;
      seq = p.seq;
      len0 = p.len0;
      len1 = p.len1;
      len2 = p.len2;
      len3 = p.len3;
      sum = p.sum;
      last = p.last;
    }

-- one byte of the frame more; 13 with the escapee's byte
unfoldable pub step_of : Pass → ℕ → Outcome Pass
step_of p b =
    pick p.sentry
    (pick (nat_lt b 0x2C) (refused 13 (b ∷ []))
    (pick (nat_lt b 0x2F) (accepted (with_byte p (b + 16)))
    (refused 13 (b ∷ []))))
    (pick (b == SENTRY) (accepted (awaiting p))
    (accepted (with_byte p b)))

-- "a four-byte length with the high byte first"
abbrev pub declared_in : Pass → ℕ
declared_in p = p.len0 * 16777216 + p.len1 * 65536 + p.len2 * 256 + p.len3

-- 12, 14, 15, 16, or type, sequence and payload length
unfoldable pub end_of : Pass → Outcome Header
end_of p =
    pick p.sentry (refused 12 [])
    (pick (nat_lt p.count 7) (refused 14 [])
    (pick (p.last == p.sum)
    (pick (declared_in p == p.count - 7) (accepted (record { data_type = from_wire p.kind; seq = p.seq; len = p.count - 7 }))
    (refused 16 (declared_in p ∷ (p.count - 7) ∷ [])))
    (refused 15 (p.last ∷ p.sum ∷ []))))
