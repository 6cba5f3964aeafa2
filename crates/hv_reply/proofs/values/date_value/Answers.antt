use Rattle.hv_reply.proofs.DateTexts.{day_text_utf8, is_ok_where}
use Rattle.hv_reply.proofs.values.date_value.Goals as goal

pub unwrap-text-requires : goal.unwrap-text-requires
unwrap-text-requires c =
    is_ok_where c.from_utf8.result _ _ c.date_text-digits.result (day_text_utf8 _ c.date_text-digits.result c.date_text-digits.ensures.text)
    c.from_utf8.ensures.cases
