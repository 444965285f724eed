-- Settings and their numbers undo each other: each settings value has one form. And the numbers of the answers are those of the rules.
-- Assumes nothing.
use mathlib.Core.Path.{◌≡◌, refl, sym, ap, subst}
use mathlib.Core.Bool.{Bool, true, false, ◌&&◌, cond}
use Prim.Native.Nat.{ℕ}
use lib.Dec.{eqb, leb}
use native.Mathlib.Omega.{arith}
use borrow.Author.Tests.{eqb-true, eqb-false, leb-true}
use Rattle.std.specs.Prelude.{Some, Result, Ok, Err}
use Rattle.wire_collector.specs.declared.CollectRefusal.{CollectRefusal}
use Rattle.wire_collector.specs.declared.CollectRefusal.TheVariants as C
use Rattle.wire_collector.specs.Collector as collector
use Rattle.wire_request.specs.declared.RequestRefusal.{RequestRefusal}
use Rattle.wire_request.specs.declared.RequestRefusal.TheVariants as W
use Rattle.wire_request.specs.Answer as request
use Rattle.handover_file.specs.declared.SaveRefusal.{SaveRefusal}
use Rattle.handover_file.specs.declared.SaveRefusal.TheVariants as H
use Rattle.handover_file.specs.Answers.{save_number}
use Rattle.version.specs.declared.ProtocolVersion.{ProtocolVersion}
use Rattle.version.specs.declared.ProtocolVersion.TheVariants.{V4, Upgrading, Upgraded, V5}
use Rattle.association.specs.declared.Settings.{Settings}
use Rattle.timer_rules.specs.declared.TimerAnswer.{TimerAnswer}
use Rattle.timer_rules.specs.declared.TimerAnswer.TheVariants as T
use Rattle.timer_rules.specs.Answer as timer-answer
use Rattle.reply_rules.specs.declared.ReplyAnswer.{ReplyAnswer}
use Rattle.reply_rules.specs.declared.ReplyAnswer.TheVariants as R
use Rattle.reply_rules.specs.Answer as reply-answer
use Rattle.exports_values.specs.declared.CSettings.{CSettings}
use Rattle.exports_values.specs.Codes.{is_kind, kind_in, kind_out, left_out, is_bit, truth, bit_of}
use Rattle.exports_values.specs.Packed.{settings_ok, settings_in, pack_settings, unpack_settings}
use Rattle.exports_values.specs.Answers.{timer_answer, reply_answer, written_as, saved_as, collected_as, requested_as}

pub left_true : (a b : Bool) → (a && b) ≡ true → a ≡ true
left_true true b e = refl
left_true false b e = e

pub right_true : (a b : Bool) → (a && b) ≡ true → b ≡ true
right_true true b e = e
right_true false b e = search e

-- ---- a version and its name

version_back : (v : ProtocolVersion) → kind_in (kind_out v) (left_out v) ≡ v
version_back V4 = refl
version_back (Upgrading left) = refl
version_back Upgraded = refl
version_back V5 = refl

version_named : (v : ProtocolVersion) → is_kind (kind_out v) (left_out v) ≡ true
version_named V4 = refl
version_named (Upgrading left) = refl
version_named Upgraded = refl
version_named V5 = refl

-- a name that is not of upgrading
idle : (k t : ℕ) → eqb k 1 ≡ false → is_kind k t ≡ true → (leb k 3 && eqb t 0) ≡ true
idle k t q e = subst (λ (b : Bool). cond b true (leb k 3 && eqb t 0) ≡ true) q e

-- the two numbers of a name
abbrev Named : ProtocolVersion → ℕ → ℕ → Type 0
Named v k t = (kind_out v ≡ k) × (left_out v ≡ t)

name_back : (k t : ℕ) → is_kind k t ≡ true → Named (kind_in k t) k t
name_back k t e = by (eqb k 1) (eqb k 2) (eqb k 3) refl refl refl
  where
    none : eqb k 1 ≡ false → 0 ≡ t
    none q = sym (eqb-true t 0 (right_true (leb k 3) (eqb t 0) (idle k t q e)))

    by : (a b c : Bool) → eqb k 1 ≡ a → eqb k 2 ≡ b → eqb k 3 ≡ c → Named (cond a (Upgrading t) (cond b Upgraded (cond c V5 V4))) k t
    by true b c p q r = (sym (eqb-true k 1 p), refl)
    by false true c p q r = (sym (eqb-true k 2 q), none p)
    by false false true p q r = (sym (eqb-true k 3 r), none p)
    by false false false p q r = (zero, none p)
      where
        zero : 0 ≡ k
        zero = omega (arith, eqb-false k 1 p, eqb-false k 2 q, eqb-false k 3 r, leb-true k 3 (left_true (leb k 3) (eqb t 0) (idle k t p e)))

-- ---- a truth and its number

truth_back : (b : Bool) → truth (bit_of b) ≡ b
truth_back true = refl
truth_back false = refl

truth_named : (b : Bool) → is_bit (bit_of b) ≡ true
truth_named true = refl
truth_named false = refl

bit_back : (n : ℕ) → is_bit n ≡ true → bit_of (truth n) ≡ n
bit_back n e = by (eqb n 1) refl
  where
    by : (b : Bool) → eqb n 1 ≡ b → bit_of b ≡ n
    by true p = sym (eqb-true n 1 p)
    by false p = omega (arith, eqb-false n 1 p, leb-true n 1 e)

-- ---- settings

packed_ok : (s : Settings) → settings_ok (pack_settings s) ≡ true
unfolding pack_settings
packed_ok s = λ i. version_named s.start.kind i && (truth_named s.nts i && true)

packed_back : (s : Settings) → settings_in (pack_settings s) ≡ s
unfolding pack_settings settings_in
packed_back s =
    λ i. record {
      min = s.min;
      max = s.max;
      startup = s.startup;
      window = s.window;
      upgrademark = s.upgrademark;
      start = record { kind = version_back s.start.kind i };
      nts = truth_back s.nts i;
      source = s.source;
      capacity = s.capacity;
    }

-- promise: exports.7
pub settings_back : (s : Settings) → unpack_settings (pack_settings s) ≡ Some s
settings_back s = rw packed_ok (ap Some (packed_back s))

-- promise: exports.7
pub csettings_back : (c : CSettings) → settings_ok c ≡ true → pack_settings (settings_in c) ≡ c
unfolding pack_settings settings_in
csettings_back c e =
    let kind = is_kind c.start c.left in
    let rest = right_true kind _ e in
    let name = name_back c.start c.left (left_true kind _ e) in
    λ i. record {
      window = c.window;
      upgrademark = c.upgrademark;
      source = c.source;
      start = name.0 i;
      nts = bit_back c.nts (left_true _ (eqb c.spare 0) rest) i;
      capacity = c.capacity;
      spare = sym (eqb-true c.spare 0 (right_true (is_bit c.nts) _ rest)) i;
      left = name.1 i;
      startup = c.startup;
      min = c.min;
      max = c.max;
    }

-- ---- the numbers

-- promise: exports.7
pub timer_number_lem : (r : TimerAnswer) → (timer_answer r).number ≡ timer-answer.number_of r
timer_number_lem (T.Sent kind poll len asked) = refl
timer_number_lem T.Reset = refl
timer_number_lem T.Demobilize = refl
timer_number_lem T.NoCookie = refl
timer_number_lem T.CookieTooLarge = refl
timer_number_lem T.ShortBuffer = refl
timer_number_lem T.NotWhole = refl

-- promise: exports.7
pub reply_number_lem : (r : ReplyAnswer) → (reply_answer r).number ≡ reply-answer.number_of r
reply_number_lem (R.Measured m) = refl
reply_number_lem R.Undecodable = refl
reply_number_lem R.UnexpectedVersion = refl
reply_number_lem R.NeverSent = refl
reply_number_lem R.AlreadyMeasured = refl
reply_number_lem R.Expired = refl
reply_number_lem R.NoMatch = refl
reply_number_lem R.Rate = refl
reply_number_lem R.Denied = refl
reply_number_lem R.DeniedNts = refl
reply_number_lem R.Ntsn = refl
reply_number_lem R.OtherKiss = refl
reply_number_lem R.BadStratum = refl
reply_number_lem R.NotServer = refl
reply_number_lem R.NotWhole = refl
reply_number_lem R.BrokenList = refl

-- ---- what is written: the numbers of the refusals, one by one

-- promise: exports.7
pub saved_written : (r : Result ℕ SaveRefusal) → written_as (λ refusal. save_number (Err refusal)) r ≡ saved_as r
saved_written (Ok length) = refl
saved_written (Err H.NotWhole) = refl
saved_written (Err H.ShortBuffer) = refl

-- promise: exports.10
pub collected_written : (r : Result ℕ CollectRefusal) → written_as (λ refusal. collector.number_of (Err refusal)) r ≡ collected_as r
collected_written (Ok length) = refl
collected_written (Err C.Broken) = refl
collected_written (Err C.TooLong) = refl

-- promise: exports.10
pub requested_written : (r : Result ℕ RequestRefusal) → written_as (λ refusal. request.number_of (Err refusal)) r ≡ requested_as r
requested_written (Ok length) = refl
requested_written (Err W.VersionFive) = refl
requested_written (Err W.ShortBuffer) = refl
requested_written (Err W.CookieOrCount) = refl
