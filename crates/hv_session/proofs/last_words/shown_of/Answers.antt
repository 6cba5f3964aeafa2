use Rattle.hv_session.proofs.last_words.shown_of.Goals as goal

-- the summary of the whole table is shown
pub returns : goal.returns
returns c = λ told.
    let whole = c.in_ok-summary.ensures told in
    record { rows = whole.rows; is = whole.is; under = whole.under; holds = c.in_ok-shown.ensures whole.rows whole.holds }
