-- RULES, part 9: a kiss has stratum 0, and its reference identifier is its name.
-- Assumes nothing.
use Rattle.std.specs.Prelude.{ℕ, Bool, ◌&&◌, eqb}
use Rattle.identifiers.specs.Names.{deny, rate, rstr, ntsn, is_name}
use Rattle.wire_header.specs.declared.Header.{Header}
use Rattle.wire_header.specs.declared.Kisses.{Kisses}

abbrev pub is_kiss : Header → Bool
is_kiss h = eqb h.stratum 0

abbrev pub is_kiss_named : ℕ → Header → Bool
is_kiss_named n h = is_kiss h && is_name n h.refid

-- promise 9.1: A kiss has stratum 0, and its name is the reference identifier.
--     edit: wire_header/kiss_at_stratum_one
unfoldable pub kisses_of : Header → Kisses
kisses_of h =
    record {
      rate = is_kiss_named rate h;
      deny = is_kiss_named deny h;
      rstr = is_kiss_named rstr h;
      ntsn = is_kiss_named ntsn h;
      any = is_kiss h;
    }
