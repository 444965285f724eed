-- The number in RULES for each answer to a reply, and the actions that follow from the number.
-- Assumes nothing.
use Rattle.std.specs.Prelude.{◌≡◌, cond, List, [], ◌∷◌, ℕ, eqb}
use Rattle.association.specs.Actions.{Action, update_system, demobilize}
use Rattle.reply_rules.specs.declared.ReplyAnswer.{ReplyAnswer}
use Rattle.reply_rules.specs.declared.ReplyAnswer.TheVariants.{
  Measured,
  Undecodable,
  UnexpectedVersion,
  NeverSent,
  AlreadyMeasured,
  Expired,
  NoMatch,
  Rate,
  Denied,
  DeniedNts,
  Ntsn,
  OtherKiss,
  BadStratum,
  NotServer,
  NotWhole,
  BrokenList,
}

abbrev pub number_of : ReplyAnswer → ℕ
-- measured
number_of (Measured m) = 0
-- packet bytes not decodable
number_of Undecodable = 1
-- version not expected
number_of UnexpectedVersion = 2
-- identifiers do not match
number_of NoMatch = 4
-- RATE kiss
number_of Rate = 5
-- DENY or RSTR, no NTS
number_of Denied = 6
-- DENY or RSTR, NTS: demobilize
number_of DeniedNts = 7
-- NTSN; any other kiss
number_of Ntsn = 8
number_of OtherKiss = 9
-- stratum over 16; mode not server
number_of BadStratum = 10
number_of NotServer = 11
-- no live request (No. 3): never sent; already measured; deadline < now
number_of NeverSent = 12
number_of AlreadyMeasured = 13
number_of Expired = 14
-- record not whole
number_of NotWhole = 32
-- broken cookie list (NTS only)
number_of BrokenList = 33

-- actions follow from the number: 0 from a reply is one system update with the measurement; 7 demobilizes; others none
-- promise actions.3: Actions of a reply, number by number; demand 3 cites them.
abbrev pub actions_of : ℕ → List Action
actions_of n = cond (eqb n 0) (update_system ∷ []) (cond (eqb n 7) (demobilize ∷ []) [])

-- number by number
pub record ReplyActs (actions : ℕ → List Action) : Type 0 where
  pub measured_0 : actions 0 ≡ update_system ∷ []
  pub none_1 : actions 1 ≡ []
  pub none_2 : actions 2 ≡ []
  pub none_4 : actions 4 ≡ []
  pub none_5 : actions 5 ≡ []
  pub none_6 : actions 6 ≡ []
  pub demobilize_7 : actions 7 ≡ demobilize ∷ []
  pub none_8 : actions 8 ≡ []
  pub none_9 : actions 9 ≡ []
  pub none_10 : actions 10 ≡ []
  pub none_11 : actions 11 ≡ []
  pub none_12 : actions 12 ≡ []
  pub none_13 : actions 13 ≡ []
  pub none_14 : actions 14 ≡ []
  pub none_32 : actions 32 ≡ []
  pub none_33 : actions 33 ≡ []
