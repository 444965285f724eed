-- Cases of RULES other than the starred ones, on both sides of each edge: what a version expects and sends, the fallback, the deadline, the ranges of the
-- settings, the first list, and the metered profile. A case is a call of a definition with its expected result, and `Right` says what the case claims.
-- proofs/Rules.antt has the one theorem.
-- Assumes nothing.
use Rattle.std.specs.Prelude.{◌≡◌, Bool, true, false, List, [], ◌∷◌, ℕ, ◌-◌, ◌^◌, ℤ, pos, negsuc, replicate}
use Rattle.identifiers.specs.Names.{named}
use Rattle.time_types.specs.Poll.{interval}
use Rattle.version.specs.declared.ProtocolVersion.{ProtocolVersion}
use Rattle.version.specs.declared.ProtocolVersion.TheVariants.{V4, Upgrading, Upgraded, V5}
use Rattle.version.specs.declared.SendKind.{SendKind}
use Rattle.version.specs.declared.SendKind.TheVariants as send
use Rattle.version.specs.Upgrade.{version, expects_of}
use Rattle.version.specs.Send.{kind_of}
use Rattle.association.specs.declared.Settings.{Settings}
use Rattle.association.specs.declared.State.{State}
use Rattle.association.specs.Settings.{settings_valid}
use Rattle.association.specs.New as new
use Rattle.timer_rules.specs.declared.TimerInput.{TimerInput}
use Rattle.timer_rules.specs.Poll.{tried_of, pending_of}
use Rattle.association_metered.specs.Profile as metered

-- settings with these limits and numbers
abbrev pub settings_of : (min max : ℤ) (startup window capacity : ℕ) (start : ProtocolVersion) (nts : Bool) → Settings
settings_of min max startup window capacity start nts =
    record {
      min = interval min;
      max = interval max;
      startup = startup;
      window = window;
      upgrademark = 0;
      start = version start;
      nts = nts;
      source = named 0;
      capacity = capacity;
    }

pub data Case : Type 0 where
  -- a version, a reply's version, and whether it is expected (part 4)
  expects : (kind : ProtocolVersion) (reply : ℕ) (expected : Bool) → Case
  -- a version, NTS, and the kind of a send (part 10)
  sends : (kind : ProtocolVersion) (nts : Bool) (kind_of_send : SendKind) → Case
  -- a version, the unanswered polls, and the version that a poll is tried with (part 10)
  tries : (kind : ProtocolVersion) (unanswered : ℕ) (next : ProtocolVersion) → Case
  -- when a poll was sent, its window, and its deadline (part 10)
  due : (sent window deadline : ℕ) → Case
  -- limits and numbers, and whether the settings are in their ranges
  ranges : (min max : ℤ) (startup window capacity : ℕ) (valid : Bool) → Case
  -- the start version, NTS, a first list, and the number of `new`
  makes : (start : ProtocolVersion) (nts : Bool) (list : List ℕ) (number : ℕ) → Case
  -- the least poll, the startup limit, the start version, NTS, a first list, and the number of the metered profile (No. 11)
  profiles : (min : ℤ) (startup : ℕ) (start : ProtocolVersion) (nts : Bool) (list : List ℕ) (number : ℕ) → Case

abbrev pub Right : Case → Type 0
Right (expects k v e) = expects_of (version k) v ≡ e
Right (sends k nts x) = kind_of k nts ≡ x
Right (tries k n next) = (s : State) → s.version ≡ version k → s.effort.unanswered ≡ n → (tried_of s).version ≡ version next
Right (due sent window deadline) = (nts : Bool) (i : TimerInput) → i.time ≡ sent → (pending_of nts window i).deadline ≡ deadline
Right (ranges min max startup window capacity valid) = settings_valid (settings_of min max startup window capacity V4 false) ≡ valid
Right (makes start nts list n) = new.number_of (new.new_of (settings_of (pos 4) (pos 10) 3 5000000000 8 start nts) list).answer ≡ n
Right (profiles min startup start nts list n) = metered.number_of (metered.profile_of (settings_of min (pos 10) startup 5000000000 8 start nts) list) ≡ n

-- a list of one cookie of n sevens, n below 256
abbrev pub one_cookie : ℕ → List ℕ
one_cookie n = 0xC0 ∷ 0x0E ∷ 0 ∷ n ∷ replicate n 7

-- negsuc 0 is -1
abbrev pub table : List Case
table =
    expects V4 2 false
    ∷ expects V4 3 true
    ∷ expects V4 4 true
    ∷ expects V4 5 false
    ∷ expects (Upgrading 1) 3 false
    ∷ expects (Upgrading 1) 4 true
    ∷ expects (Upgrading 1) 5 false
    ∷ expects Upgraded 4 false
    ∷ expects Upgraded 5 true
    ∷ expects V5 4 false
    ∷ expects V5 5 true
    ∷ expects V5 6 false
    ∷ sends V4 false send.V4
    ∷ sends (Upgrading 1) false send.V4Upgrade
    ∷ sends Upgraded false send.V5
    ∷ sends V5 false send.V5
    ∷ sends V4 true send.NtsV4
    ∷ sends (Upgrading 1) true send.NtsV5
    ∷ sends Upgraded true send.NtsV5
    ∷ sends V5 true send.NtsV5
    ∷ tries Upgraded 1 Upgraded
    ∷ tries Upgraded 2 V4
    ∷ tries V5 8 V5
    ∷ tries V4 8 V4
    ∷ tries (Upgrading 1) 8 (Upgrading 1)
    ∷ due 1000 5000 6000
    ∷ due (2 ^ 64 - 5001) 5000 (2 ^ 64 - 1)
    ∷ due (2 ^ 64 - 5002) 5000 (2 ^ 64 - 2)
    ∷ due (2 ^ 64 - 5000) 5000 (2 ^ 64 - 1)
    ∷ due (2 ^ 64 - 1) 60000000000 (2 ^ 64 - 1)
    ∷ ranges (pos 0) (pos 17) 1 1 1 true
    ∷ ranges (pos 17) (pos 17) 8 60000000000 8 true
    ∷ ranges (negsuc 0) (pos 17) 8 60000000000 8 false
    ∷ ranges (pos 0) (pos 18) 8 60000000000 8 false
    ∷ ranges (pos 5) (pos 4) 8 60000000000 8 false
    ∷ ranges (pos 4) (pos 10) 0 60000000000 8 false
    ∷ ranges (pos 4) (pos 10) 9 60000000000 8 false
    ∷ ranges (pos 4) (pos 10) 8 0 8 false
    ∷ ranges (pos 4) (pos 10) 8 60000000001 8 false
    ∷ ranges (pos 4) (pos 10) 8 60000000000 0 false
    ∷ ranges (pos 4) (pos 10) 8 60000000000 9 false
    ∷ makes V4 true [] 0
    ∷ makes V4 true (one_cookie 2) 0
    ∷ makes V4 true (0xC0 ∷ 0x0E ∷ 0 ∷ []) 33
    ∷ makes V4 true (0xC0 ∷ 0x0E ∷ 0 ∷ 2 ∷ 7 ∷ []) 33
    ∷ makes V4 true (0xC0 ∷ 0x0E ∷ 0 ∷ 0 ∷ 7 ∷ []) 33
    ∷ makes V4 true (0xC0 ∷ 0x0F ∷ 0 ∷ 0 ∷ []) 33
    ∷ makes V4 false (0xC0 ∷ 0x0F ∷ 0 ∷ 0 ∷ []) 0
    ∷ makes (Upgrading 1) true (0xC0 ∷ 0x0F ∷ 0 ∷ 0 ∷ []) 33
    ∷ makes (Upgrading 1) false [] 38
    ∷ makes Upgraded false [] 0
    ∷ makes V5 false [] 0
    ∷ profiles (pos 7) 3 V4 true [] 34
    ∷ profiles (pos 8) 3 V4 true [] 0
    ∷ profiles (pos 8) 4 V4 true [] 35
    ∷ profiles (pos 8) 3 (Upgrading 1) true [] 36
    ∷ profiles (pos 8) 3 Upgraded true [] 0
    ∷ profiles (pos 8) 3 V4 true (one_cookie 100) 0
    ∷ profiles (pos 8) 3 V4 true (one_cookie 101) 37
    ∷ profiles (pos 8) 3 V4 false (one_cookie 101) 0
    ∷ []
