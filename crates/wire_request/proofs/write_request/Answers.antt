-- `write_request` meets its contract: a return for each answer, under the tests that lead there.
-- Assumes nothing.
use Rattle.std.proofs.Common.{sym, ap, ◌∙◌}
use Rattle.wire_header.specs.Header.{bytes_of}
use Rattle.wire_request.specs.Request.{packet_of}
use Rattle.wire_request.specs.Answer.{request_of, buffer_of}
use Rattle.wire_request.proofs.write_request.Goals as goal

pub returns-then-is_v5 : goal.returns-then-is_v5
unfolding request_of buffer_of
returns-then-is_v5 c =
    let v = sym c.is_v5.ensures ∙ c.if-is_v5.true in
    (rw v, rw v)

pub returns-then-not-has_nts : goal.returns-then-not-has_nts
unfolding request_of buffer_of packet_of
returns-then-not-has_nts c =
    let v = sym c.is_v5.ensures ∙ c.if-is_v5.false in
    let t = sym c.has_nts.ensures ∙ c.if-not-has_nts.true in
    let f = sym (c.write_header-front.ensures ∙ ap bytes_of c.header.ensures) in
    (rw (v, t, f) c.write_plain.ensures.0, rw (v, t, f) c.write_plain.ensures.1)

pub returns-then-not-ask_valid : goal.returns-then-not-ask_valid
unfolding request_of buffer_of
returns-then-not-ask_valid c =
    let v = sym c.is_v5.ensures ∙ c.if-is_v5.false in
    let t = sym c.has_nts.ensures ∙ c.if-not-has_nts.false in
    let h = sym c.ask_valid.ensures ∙ c.if-not-ask_valid.true in
    (rw (v, t, h), rw (v, t, h))

pub returns : goal.returns
unfolding request_of buffer_of packet_of
returns c =
    let v = sym c.is_v5.ensures ∙ c.if-is_v5.false in
    let t = sym c.has_nts.ensures ∙ c.if-not-has_nts.false in
    let h = sym c.ask_valid.ensures ∙ c.if-not-ask_valid.false in
    let f = sym (c.write_header-front.ensures ∙ ap bytes_of c.header.ensures) in
    (rw (v, t, h, f) c.write_nts.ensures.0, rw (v, t, h, f) c.write_nts.ensures.1)
