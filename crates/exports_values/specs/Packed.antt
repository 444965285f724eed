-- Settings as C has them, and those of the rules; and the state, as it is shown.
-- Assumes nothing.
use Rattle.std.specs.Prelude.{Bool, ◌&&◌, cond, eqb, Option, Some, None}
use Rattle.association.specs.declared.Settings.{Settings}
use Rattle.association.specs.declared.State.{State}
use Rattle.exports_values.specs.declared.CSettings.{CSettings}
use Rattle.exports_values.specs.declared.CState.{CState}
use Rattle.exports_values.specs.Codes.{is_kind, version_in, kind_out, left_out, is_bit, truth, bit_of}

-- ---- settings

-- the spare byte is zero
abbrev pub settings_ok : CSettings → Bool
settings_ok c = is_kind c.start c.left && (is_bit c.nts && eqb c.spare 0)

-- promise: exports.7
unfoldable pub settings_in : CSettings → Settings
settings_in c =
    record {
      min = c.min;
      max = c.max;
      startup = c.startup;
      window = c.window;
      upgrademark = c.upgrademark;
      start = version_in c.start c.left;
      nts = truth c.nts;
      source = c.source;
      capacity = c.capacity;
    }

-- the settings, if every code in them is known
abbrev pub unpack_settings : CSettings → Option Settings
unpack_settings c = cond (settings_ok c) (Some (settings_in c)) None

-- promise: exports.7
unfoldable pub pack_settings : Settings → CSettings
pack_settings s =
    record {
      window = s.window;
      upgrademark = s.upgrademark;
      source = s.source;
      start = kind_out s.start.kind;
      nts = bit_of s.nts;
      capacity = s.capacity;
      spare = 0;
      left = left_out s.start.kind;
      startup = s.startup;
      min = s.min;
      max = s.max;
    }

-- ---- state

-- promise: exports.7
unfoldable pub pack_state : State → CState
pack_state s =
    record {
      reach = s.effort.reach;
      tries = s.effort.tries;
      polls = s.polls;
      refid = s.source.refid;
      version = kind_out s.version.kind;
      left = left_out s.version.kind;
      stratum = s.source.stratum;
      denial = bit_of s.source.denial;
      unanswered = s.effort.unanswered;
      id = s.request.id;
      deadline = s.request.deadline;
      uid = s.request.uid;
      answered = bit_of s.request.answered;
      present = bit_of s.request.present;
    }
