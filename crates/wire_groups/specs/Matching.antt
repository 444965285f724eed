-- What groups of fields say about the unique identifier, and when a reply's groups match (RULES, part 8; RFC 8915, section 5.3).
-- Assumes nothing.
use Rattle.std.specs.Prelude.{ℕ, ◌≡◌, List, [], ◌∷◌, ◌++◌, Bool, true, false, not, ◌&&◌, ◌||◌, cond, leb, ltb, eqb}
use Rattle.wire_fields.specs.Fields.{Told}
use Rattle.wire_fields.specs.Walk.{packet_walk, decrypted_walk, fields_of, between, bodies_of}
use Rattle.wire_groups.specs.declared.Uid.{Uid}
use Rattle.wire_groups.specs.declared.Uid.TheVariants.{Absent, Agree, Disagree}

-- the type of a field that carries the unique identifier
abbrev pub uid_kind : ℕ
uid_kind = 0x0104

-- whether the bytes b start with the bytes u
abbrev pub starts_with : List ℕ → List ℕ → Bool
starts_with b [] = true
starts_with [] (x ∷ u) = false
starts_with (y ∷ b) (x ∷ u) = eqb y x && starts_with b u

abbrev pub all_start_with : List (List ℕ) → List ℕ → Bool
all_start_with [] u = true
all_start_with (b ∷ bs) u = starts_with b u && all_start_with bs u

-- from the bodies of a group's uid fields: absent; agree, if each starts with u; or disagree
-- promise 8.1: Each group is absent, agrees (every field of type 0104 starts with the 32 bytes) or disagrees.
--     edit: wire_groups/uid_not_noted
abbrev pub uid_of : List ℕ → List (List ℕ) → Uid
uid_of u [] = Absent
uid_of u (b ∷ bs) = cond (all_start_with (b ∷ bs) u) Agree Disagree

-- the bodies of the uid fields that start at `from` or later and before `to`, among those that a walk has found
abbrev pub uids_within : ℕ → ℕ → List Told → List (List ℕ)
uids_within from to [] = []
uids_within from to (f ∷ fs) = cond (leb from f.at && ltb f.at to && eqb f.kind uid_kind) (f.body ∷ uids_within from to fs) (uids_within from to fs)

-- the packet's fields that start at `from` or later and before `to`
-- promise 7.8: Fields before the authenticated end are authenticated, fields after it untrusted.
--     edit: wire_incoming/untrusted_taken_as_authenticated
-- promise: 8.1
unfoldable pub packet_uid : List ℕ → ℕ → ℕ → List ℕ → Uid
packet_uid p from to u = uid_of u (bodies_of uid_kind p (between from to (fields_of (packet_walk p))))

-- all decrypted fields
-- promise: 8.1
unfoldable pub decrypted_uid : List ℕ → List ℕ → Uid
decrypted_uid p u = uid_of u (bodies_of uid_kind p (fields_of (decrypted_walk p)))

abbrev pub disagrees : Uid → Bool
disagrees Absent = false
disagrees Agree = false
disagrees Disagree = true

abbrev pub agrees : Uid → Bool
agrees Absent = false
agrees Agree = true
agrees Disagree = false

abbrev pub none_disagrees : List Uid → Bool
none_disagrees [] = true
none_disagrees (g ∷ gs) = not (disagrees g) && none_disagrees gs

abbrev pub one_agrees : List Uid → Bool
one_agrees [] = false
one_agrees (g ∷ gs) = agrees g || one_agrees gs

-- no group may disagree, and one must agree
abbrev pub groups_match : List Uid → Bool
groups_match gs = none_disagrees gs && one_agrees gs

-- part 8: the authenticated and the encrypted group; the untrusted one counts for an NTSN kiss only, and otherwise counts as absent
-- promise 8.2: The authenticated and the encrypted group must not disagree, and one must agree. The untrusted group counts only for NTSN.
--     edit: wire_groups/untrusted_believed
unfoldable pub uid_matches : Uid → Uid → Uid → Bool → Bool
uid_matches authenticated encrypted untrusted ntsn = groups_match (authenticated ∷ encrypted ∷ cond ntsn untrusted Absent ∷ [])

-- the bytes b are u and then others: what `starts_with` says, as a statement (proofs/Uids.antt)
abbrev pub Begins : List ℕ → List ℕ → Type 0
Begins u b = (r : List ℕ) × (b ≡ u ++ r)
