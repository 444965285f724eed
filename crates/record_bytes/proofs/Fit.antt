-- Every state that the machine holds fits its bytes: the types alone give it.
-- Assumes nothing.
use mathlib.Core.List.{List}
use borrow.Author.Rules.{rules}
use denote.Laws.{Is}
use mir.Val.{Val}
use Rattle.association.specs.declared.State.{State}
use Rattle.association.specs.contracts.State as State·
use Rattle.record_bytes.specs.State.{StateFit}

pub state_fit : (s : State) (vs : List Val) → Is State·.the_row s vs → StateFit s
state_fit s vs is =
    record {
      last = search rules;
      remote = search rules;
      refid = search rules;
      request = record
          { id = search rules; deadline = search rules; uid = search rules };
    }
