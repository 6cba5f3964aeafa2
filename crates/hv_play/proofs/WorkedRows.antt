-- Worked rows: scripts and the outputs that the definition of a right output gives for them, computed from bytes to bytes.
use Rattle.std.proofs.Common.{◌≡◌, ◌∙◌, refl, sym, ap, subst, ℕ, pos, negsuc, List, [], ◌∷◌, drop, map, Option, Some, None, codes, arith, rules}
use Rattle.std.specs.Prelude.{MatchOption, option_map, slice_set}
use Rattle.std.specs.List.{filter_map}
use Rattle.std.specs.Str.{is_utf8, chars}
use Rattle.std.specs.Char.{encode_utf8}
use Rattle.std.specs.Fmt.{digits}
use Rattle.jiff_core.specs.declared.civil.date.Date.{Date}
use Rattle.jiff_core.specs.Calendar.{day_count, days_from_civil, days_of_months, days_of_years}
use Rattle.csv.specs.Records.{field_at}
use Rattle.csv.proofs.OnLiterals.{csv_on_literals}
use Rattle.serde_json.specs.Data.{null, string, object, member, no_members}
use Rattle.serde_json.specs.Written.{compact_text}
use Rattle.serde_json.proofs.OnLiterals.{serde_json_on_literals}
use Rattle.hv_value.specs.declared.cell.Kind.TheVariants as kind
use Rattle.hv_value.specs.declared.cell.Cell.TheVariants as cell
use Rattle.hv_value.specs.Civil.{text_of_day}
use Rattle.hv_value.proofs.CivilLemmas.{text_is}
use Rattle.hv_value.specs.Days.{day_of_text}
use Rattle.hv_value.specs.Number.{int_of_text}
use Rattle.hv_value.specs.Rows.{Row, base_rows}
use Rattle.hv_value.specs.Schema.{Columns}
use Rattle.hv_value.specs.Order.{compare_cells}
use Rattle.hv_range.specs.Range.{range_of}
use Rattle.hv_view.specs.declared.any_view.AnyView.TheVariants as view
use Rattle.hv_view.specs.declared.plan.Plan.{Plan}
use Rattle.hv_view.specs.declared.plan.Plan.TheVariants.{One}
use Rattle.hv_view.specs.declared.shown.Shown.{Shown}
use Rattle.hv_view.specs.declared.shown.Shown.TheVariants as shown
use Rattle.hv_view.specs.View.{range_shown}
use Rattle.hv_lineage.specs.declared.base.Base.{Base}
use Rattle.hv_lineage.specs.declared.base.Base.TheVariants as base
use Rattle.hv_lineage.specs.declared.term.Term.TheVariants as term
use Rattle.hv_lineage.specs.Flat.{AreRowsIn, append_told, rows_of_part, whole_rows}
use Rattle.hv_lineage.specs.Lineages.{TermOver, lineage_columns}
use Rattle.hv_lineage.specs.Made.{Made}
use Rattle.hv_lineage.proofs.TermNodes.{made-Base}
use Rattle.hv_member.specs.Sets.{numbers}
use Rattle.hv_asked.specs.declared.why.Why.TheVariants as why
use Rattle.hv_asked.specs.Flaws.{and_then}
use Rattle.hv_message.specs.Messages.{Known, Reading, makes, views, cancels, means, malformed, opened_in, reading, reading_of, reading_of_value}
use Rattle.hv_message.specs.declared.asked.ViewAsked.{ViewAsked}
use Rattle.hv_message.specs.declared.asked.ViewAsked.TheVariants as asked
use Rattle.hv_message.specs.Views.{planned}
use Rattle.hv_reply.specs.declared.reply.Reply.{Reply}
use Rattle.hv_reply.specs.declared.reply.Reply.TheVariants.{Made as Makes, Final, Cancelled, Done, Malformed}
use Rattle.hv_reply.specs.Values.{shown_data, whole as whole_number}
use Rattle.hv_session.specs.declared.request.OpenRequest.{OpenRequest}
use Rattle.hv_session.specs.Talk.{Talk, IsFinal, answers, ending, known, making, new_talk}
use Rattle.hv_play.specs.declared.entry.BadLine.TheVariants as bad_line
use Rattle.hv_play.specs.declared.entry.Entry.{Entry}
use Rattle.hv_play.specs.Run.{script, Event, comes, written, out, bad_entry, whole, early, IsTrace}
use Rattle.hv_play.specs.Script.{line_of, empty, hears, bad, script_lines}
use Rattle.hv_play.specs.Texts.{entry_text, entries_text}
use Rattle.hv_play.proofs.RowSteps.{a_line, no_line, a_bad_line, a_text, what_is_owed, nothing_owed, a_round, a_tick, idle_ticks, no_round, an_answer, row, begun, Goes, nothing_told, session, sixteen_sessions, new_talks}

-- ---- what lines ask for

abbrev load_line : List ℕ
load_line = codes "{\"s\":0,\"msg\":{\"id\":1,\"op\":\"load\",\"table\":{\"inline\":{\"parts\":[\"x,y\\n5,a\\n,b\\n-2,c\",\"x,y\\n9,d\"],\"schema\":[[\"x\",\"int\"]]}}}}"

abbrev view_line : List ℕ
view_line = codes "{\"s\":0,\"msg\":{\"id\":2,\"op\":\"view\",\"of\":0,\"view\":{\"col\":\"x\",\"kind\":\"range\"}}}"

abbrev cut_line : List ℕ
cut_line = codes "{\"s\":0,\"msg\":{\"id\":"

-- the messages' compact texts
abbrev load_text : List ℕ
load_text = codes "{\"id\":1,\"op\":\"load\",\"table\":{\"inline\":{\"parts\":[\"x,y\\n5,a\\n,b\\n-2,c\",\"x,y\\n9,d\"],\"schema\":[[\"x\",\"int\"]]}}}"

abbrev view_text : List ℕ
view_text = codes "{\"id\":2,\"of\":0,\"op\":\"view\",\"view\":{\"col\":\"x\",\"kind\":\"range\"}}"

load_asks : line_of load_line ≡ hears 0 load_text
unfolding serde_json_on_literals is_utf8 chars encode_utf8 digits
load_asks = refl

view_asks : line_of view_line ≡ hears 0 view_text
unfolding serde_json_on_literals is_utf8 chars encode_utf8 digits
view_asks = refl

cut_asks : line_of cut_line ≡ bad bad_line.Json
unfolding serde_json_on_literals is_utf8 chars encode_utf8 digits
cut_asks = refl

-- an empty line is passed over; what is no object isn't a line, nor is an object of no form or with a number that isn't whole
other_lines : map line_of ([] ∷ codes "[]" ∷ codes "{\"s\":0}" ∷ codes "{\"s\":1.0,\"msg\":{}}" ∷ codes "{\"s\":0,\"msg\":[]}" ∷ codes "{\"s\":0,\"msg\":{\"id\":1.5}}" ∷ codes " {\"msg\":{ },\"s\":15} " ∷ [])
    ≡ empty ∷ bad bad_line.Json ∷ bad bad_line.Line ∷ bad bad_line.Line ∷ bad bad_line.Line ∷ bad bad_line.Line ∷ hears 15 (codes "{}") ∷ []
unfolding serde_json_on_literals is_utf8 chars encode_utf8 digits
other_lines = refl

-- a whole number that is no session's is told; one above 64 bits isn't whole
session_lines : map line_of (codes "{\"s\":16,\"msg\":{}}" ∷ codes "{\"s\":-1,\"raw\":\"\"}" ∷ codes "{\"s\":18446744073709551615}" ∷ codes "{\"s\":18446744073709551616}" ∷ codes "{\"poll\":16}" ∷ codes "{\"poll\":-1,\"s\":0}" ∷ codes "{\"poll\":15}" ∷ [])
    ≡ bad bad_line.Session ∷ bad bad_line.Session ∷ bad bad_line.Session ∷ bad bad_line.Line ∷ bad bad_line.Session ∷ bad bad_line.Session ∷ bad bad_line.Line ∷ []
unfolding serde_json_on_literals is_utf8 chars encode_utf8 digits
session_lines = refl

-- a raw text is heard as it stands; a message goes before it, but not one with a number that isn't whole
raw_lines : map line_of (codes "{\"s\":3,\"raw\":\"{ \"}" ∷ codes "{\"s\":3,\"raw\":\"{ \",\"msg\":{ }}" ∷ codes "{\"s\":3,\"raw\":\"{ \",\"msg\":{\"id\":1e0}}" ∷ codes "{\"s\":3,\"raw\":7}" ∷ [])
    ≡ hears 3 (codes "{ ") ∷ hears 3 (codes "{}") ∷ hears 3 (codes "{ ") ∷ bad bad_line.Line ∷ []
unfolding serde_json_on_literals is_utf8 chars encode_utf8 digits
raw_lines = refl

-- ---- the rows of a lineage, by what its term makes of a base row

abbrev rows_by : Made → List Row → List Row
rows_by m rows = filter_map (λ row. option_map (λ cells. record row { cells = cells }) (m.cells row)) rows

abbrev flat_by : Made → Base → List ℕ → Option (List Row)
flat_by m b [] = Some []
flat_by m b (part ∷ parts) = append_told (option_map (rows_by m) (rows_of_part nothing_told b part)) (flat_by m b parts)

-- ---- what messages mean

abbrev columns : Columns
columns = (codes "x", kind.Int) ∷ []

abbrev table : TermOver
table = record { base = base.Inline columns (codes "x,y\n5,a\n,b\n-2,c" ∷ codes "x,y\n9,d" ∷ []); term = term.Base }

abbrev range_plan : Plan
range_plan = One (view.Range (record { col = 0; kind = kind.Int }))

abbrev request : OpenRequest
request = record { id = 2; of = table; plan = range_plan }

-- the columns of a table as it was loaded
table_columns : (columns : Columns) (parts : List (List ℕ)) → lineage_columns (record { base = base.Inline columns parts; term = term.Base }) ≡ columns
table_columns columns parts = ap (λ (m : Made). m.columns) (made-Base columns)

-- what a view of an object means where the object's columns are these
abbrev viewed_by : Known → ℕ → TermOver → ViewAsked → Columns → Reading
viewed_by k id lineage v columns = reading_of id (and_then (opened_in k id lineage) (planned columns v))

load_means : reading (known [] new_talk) load_text ≡ means (makes 1 table)
unfolding serde_json_on_literals reading reading_of_value
load_means = refl

view_means : reading (known [] (session (table ∷ []) [] [])) view_text ≡ means (views 2 table range_plan)
unfolding serde_json_on_literals reading reading_of_value
view_means = ap (viewed_by (known [] (session (table ∷ []) [] [])) 2 table (asked.Range (codes "x"))) (table_columns columns (codes "x,y\n5,a\n,b\n-2,c" ∷ codes "x,y\n9,d" ∷ []))

-- before the load there is no object to view
view_of_none : reading (known [] new_talk) view_text ≡ malformed why.Object (Some 2)
unfolding serde_json_on_literals reading reading_of_value
view_of_none = refl

-- ---- the rows of the table, and their range

abbrev rows : List Row
rows =
    record { part = 0; number = 0; cells = cell.Int (pos 5) ∷ [] }
    ∷ record { part = 0; number = 1; cells = cell.Missing ∷ [] }
    ∷ record { part = 0; number = 2; cells = cell.Int (negsuc 1) ∷ [] }
    ∷ record { part = 1; number = 0; cells = cell.Int (pos 9) ∷ [] }
    ∷ []

table_rows : whole_rows nothing_told table ≡ Some rows
unfolding base_rows csv_on_literals field_at int_of_text
table_rows = ap (λ m. flat_by m table.base (0 ∷ 1 ∷ [])) (made-Base columns)

abbrev range : Shown
range = shown.Range 3 (cell.Int (pos 9)) (cell.Int (negsuc 1)) 1 (Some (pos 12))

rows_range : range_shown kind.Int (range_of 0 rows) ≡ range
unfolding compare_cells
rows_range = refl

abbrev last_reply : ℕ → Shown → Reply
last_reply id value = Final id (record { size = 2; parts = 0 ∷ 1 ∷ [] }) value

last_word : IsFinal nothing_told request (last_reply 2 range)
last_word =
    record {
      rows = rows;
      whole = subst (λ flat. MatchOption flat (AreRowsIn (lineage_columns table) (0 ∷ 1 ∷ []) rows) (λ told. rows ≡ told)) (sym table_rows) refl;
      value = range;
      is_value = sym rows_range;
      is = refl;
    }

-- what fields read as: a minus sign and digits, within 64 bits
fields : map int_of_text (codes "007" ∷ codes "-0" ∷ codes "+1" ∷ codes "" ∷ codes "-" ∷ codes "9223372036854775807" ∷ codes "9223372036854775808" ∷ codes "-9223372036854775808" ∷ [])
    ≡ Some (pos 7) ∷ Some (pos 0) ∷ None ∷ None ∷ None ∷ Some (pos 9223372036854775807) ∷ None ∷ Some (negsuc 9223372036854775807) ∷ []
unfolding int_of_text
fields = refl

-- a byte order mark, lines that end by both bytes and an empty line are none of the rows; a column without a name in the header is missing
marked_rows : base_rows ((codes "y", kind.Int) ∷ (codes "x", kind.Int) ∷ []) 3 (239 ∷ 187 ∷ 191 ∷ codes "x\r\n\r\n5\r\n\"6\"")
    ≡ record { part = 3; number = 0; cells = cell.Missing ∷ cell.Int (pos 5) ∷ [] } ∷ record { part = 3; number = 1; cells = cell.Missing ∷ cell.Int (pos 6) ∷ [] } ∷ []
unfolding base_rows csv_on_literals field_at int_of_text
marked_rows = refl

-- ---- the empty script

empty_lines : script_lines [] ≡ []
unfolding script_lines
empty_lines = refl

pub empty_script : IsTrace sixteen_sessions whole [] []
empty_script = row [] [] [] empty_lines (no_line 1 (no_round 1 refl)) refl

-- ---- a load and the range of its column

abbrev made : Entry
made = out 1 0 (Makes 1 0 None)

-- the session in which a load, a view and then its answer went on; the others are new
abbrev only : Talk → List Talk
only talk = slice_set new_talks 0 talk

-- the load makes the object, and the view opens the request
loads_and_views : {events : List Event} {last : List Talk} (lines : List (List ℕ)) → Goes (only (session (table ∷ []) (request ∷ []) [])) (script 3 lines ∷ []) events last
    → Goes new_talks (script 1 (load_line ∷ view_line ∷ lines) ∷ []) (comes 0 load_text ∷ written made ∷ comes 0 view_text ∷ events) last
loads_and_views lines run =
    a_line 1 load_line (view_line ∷ lines) (hears 0 load_text) load_asks (
    a_text 1 0 load_text (means (makes 1 table)) refl load_means (
    what_is_owed 1 0 (making 1 table None) [] refl (
    nothing_owed 1 0 refl (
    a_line 2 view_line lines (hears 0 view_text) view_asks (
    a_text 2 0 view_text (means (views 2 table range_plan)) refl view_means (
    nothing_owed 2 0 refl run))))))

abbrev other_sessions : List ℕ
other_sessions = drop 1 (numbers 16)

-- the drain answers the request
drains : (k : ℕ) → Goes (only (session (table ∷ []) (request ∷ []) [])) (script k [] ∷ []) (written (out k 0 (last_reply 2 range)) ∷ []) (only (session (table ∷ []) [] []))
drains k = no_line k (a_round k refl (a_tick k 0 (an_answer k 0 2 request (last_reply 2 range) refl refl last_word (idle_ticks k other_sessions refl (no_round k refl)))))

abbrev pub range_script : List ℕ
range_script =
    codes "{\"s\":0,\"msg\":{\"id\":1,\"op\":\"load\",\"table\":{\"inline\":{\"parts\":[\"x,y\\n5,a\\n,b\\n-2,c\",\"x,y\\n9,d\"],\"schema\":[[\"x\",\"int\"]]}}}}\n{\"s\":0,\"msg\":{\"id\":2,\"op\":\"view\",\"of\":0,\"view\":{\"col\":\"x\",\"kind\":\"range\"}}}\n"

abbrev pub range_output : List ℕ
range_output =
    codes "{\"line\":1,\"out\":{\"id\":1,\"made\":0},\"s\":0}\n{\"line\":3,\"out\":{\"id\":2,\"last\":true,\"parts\":[0,1],\"value\":{\"count\":3,\"max\":9,\"min\":-2,\"missing\":1,\"sum\":\"12\"}},\"s\":0}\n"

range_lines : script_lines range_script ≡ load_line ∷ view_line ∷ []
unfolding script_lines
range_lines = refl

range_text : entries_text (made ∷ out 3 0 (last_reply 2 range) ∷ []) ≡ range_output
unfolding entry_text serde_json_on_literals digits
range_text = refl

pub the_range_of_a_column : IsTrace sixteen_sessions whole range_script range_output
the_range_of_a_column = row range_script range_output (load_line ∷ view_line ∷ []) range_lines (loads_and_views [] (drains 3)) range_text

-- the same output where it ended early, within its second line
abbrev pub range_front : List ℕ
range_front = codes "{\"line\":1,\"out\":{\"id\":1,\"made\":0},\"s\":0}\n{\"line\":3,\"o"

abbrev pub range_rest : List ℕ
range_rest = codes "ut\":{\"id\":2,\"last\":true,\"parts\":[0,1],\"value\":{\"count\":3,\"max\":9,\"min\":-2,\"missing\":1,\"sum\":\"12\"}},\"s\":0}\n"

pub the_range_begun : IsTrace sixteen_sessions early range_script range_front
the_range_begun = begun range_script range_front range_rest the_range_of_a_column

-- ---- a view of an object that isn't there

abbrev pub view_script : List ℕ
view_script = codes "{\"s\":0,\"msg\":{\"id\":2,\"op\":\"view\",\"of\":0,\"view\":{\"col\":\"x\",\"kind\":\"range\"}}}\n"

abbrev pub view_output : List ℕ
view_output = codes "{\"line\":1,\"out\":{\"error\":\"malformed\",\"id\":2,\"why\":\"object\"},\"s\":0}\n"

view_lines : script_lines view_script ≡ view_line ∷ []
unfolding script_lines
view_lines = refl

view_out : entries_text (out 1 0 (Malformed (Some 2) why.Object) ∷ []) ≡ view_output
unfolding entry_text serde_json_on_literals digits
view_out = refl

pub a_view_of_no_object : IsTrace sixteen_sessions whole view_script view_output
a_view_of_no_object =
    row view_script view_output (view_line ∷ []) view_lines (
    a_line 1 view_line [] (hears 0 view_text) view_asks (
    a_text 1 0 view_text (malformed why.Object (Some 2)) refl view_of_none (
    what_is_owed 1 0 (answers (Malformed (Some 2) why.Object)) [] refl (
    nothing_owed 1 0 refl (
    no_line 2 (no_round 2 refl)))))) view_out

-- ---- a last line that is cut off: it is answered at once, and the request at the end

abbrev pub cut_script : List ℕ
cut_script =
    codes "{\"s\":0,\"msg\":{\"id\":1,\"op\":\"load\",\"table\":{\"inline\":{\"parts\":[\"x,y\\n5,a\\n,b\\n-2,c\",\"x,y\\n9,d\"],\"schema\":[[\"x\",\"int\"]]}}}}\n{\"s\":0,\"msg\":{\"id\":2,\"op\":\"view\",\"of\":0,\"view\":{\"col\":\"x\",\"kind\":\"range\"}}}\n{\"s\":0,\"msg\":{\"id\":"

abbrev pub cut_output : List ℕ
cut_output =
    codes "{\"line\":1,\"out\":{\"id\":1,\"made\":0},\"s\":0}\n{\"bad\":\"json\",\"line\":3}\n{\"line\":4,\"out\":{\"id\":2,\"last\":true,\"parts\":[0,1],\"value\":{\"count\":3,\"max\":9,\"min\":-2,\"missing\":1,\"sum\":\"12\"}},\"s\":0}\n"

cut_lines : script_lines cut_script ≡ load_line ∷ view_line ∷ cut_line ∷ []
unfolding script_lines
cut_lines = refl

cut_text : entries_text (made ∷ bad_entry 3 bad_line.Json ∷ out 4 0 (last_reply 2 range) ∷ []) ≡ cut_output
unfolding entry_text serde_json_on_literals digits
cut_text = refl

pub a_line_cut_off : IsTrace sixteen_sessions whole cut_script cut_output
a_line_cut_off =
    row cut_script cut_output (load_line ∷ view_line ∷ cut_line ∷ []) cut_lines (
    loads_and_views (cut_line ∷ []) (
    a_line 3 cut_line [] (bad bad_line.Json) cut_asks (
    a_bad_line 3 bad_line.Json (
    drains 4)))) cut_text

-- ---- a request that is cancelled: the drain says nothing of it

abbrev cancel_line : List ℕ
cancel_line = codes "{\"s\":0,\"msg\":{\"id\":4,\"op\":\"cancel\",\"request\":2}}"

abbrev cancel_text : List ℕ
cancel_text = codes "{\"id\":4,\"op\":\"cancel\",\"request\":2}"

cancel_asks : line_of cancel_line ≡ hears 0 cancel_text
unfolding serde_json_on_literals is_utf8 chars encode_utf8 digits
cancel_asks = refl

cancel_means : reading (known [] (session (table ∷ []) (request ∷ []) [])) cancel_text ≡ means (cancels 4 2)
unfolding serde_json_on_literals reading reading_of_value
cancel_means = refl

abbrev pub cancel_script : List ℕ
cancel_script =
    codes "{\"s\":0,\"msg\":{\"id\":1,\"op\":\"load\",\"table\":{\"inline\":{\"parts\":[\"x,y\\n5,a\\n,b\\n-2,c\",\"x,y\\n9,d\"],\"schema\":[[\"x\",\"int\"]]}}}}\n{\"s\":0,\"msg\":{\"id\":2,\"op\":\"view\",\"of\":0,\"view\":{\"col\":\"x\",\"kind\":\"range\"}}}\n{\"s\":0,\"msg\":{\"id\":4,\"op\":\"cancel\",\"request\":2}}"

abbrev pub cancel_output : List ℕ
cancel_output =
    codes "{\"line\":1,\"out\":{\"id\":1,\"made\":0},\"s\":0}\n{\"line\":3,\"out\":{\"cancelled\":true,\"id\":2},\"s\":0}\n{\"line\":3,\"out\":{\"done\":true,\"id\":4},\"s\":0}\n"

cancel_lines : script_lines cancel_script ≡ load_line ∷ view_line ∷ cancel_line ∷ []
unfolding script_lines
cancel_lines = refl

cancel_out : entries_text (made ∷ out 3 0 (Cancelled 2) ∷ out 3 0 (Done 4) ∷ []) ≡ cancel_output
unfolding entry_text serde_json_on_literals digits
cancel_out = refl

pub a_cancelled_view : IsTrace sixteen_sessions whole cancel_script cancel_output
a_cancelled_view =
    row cancel_script cancel_output (load_line ∷ view_line ∷ cancel_line ∷ []) cancel_lines (
    loads_and_views (cancel_line ∷ []) (
    a_line 3 cancel_line [] (hears 0 cancel_text) cancel_asks (
    a_text 3 0 cancel_text (means (cancels 4 2)) refl cancel_means (
    what_is_owed 3 0 (ending 2) (answers (Done 4) ∷ []) refl (
    what_is_owed 3 0 (answers (Done 4)) [] refl (
    nothing_owed 3 0 refl (
    no_line 4 (no_round 4 refl)))))))) cancel_out

-- ---- dates: the least and the greatest are texts, and a date that doesn't exist is missing

abbrev date_columns : Columns
date_columns = (codes "d", kind.Date) ∷ []

abbrev dates : TermOver
dates = record { base = base.Inline date_columns (codes "d\n2020-02-29\n2019-02-29" ∷ codes "d\n1969-12-31" ∷ []); term = term.Base }

abbrev date_rows : List Row
date_rows =
    record { part = 0; number = 0; cells = cell.Date (pos 18321) ∷ [] }
    ∷ record { part = 0; number = 1; cells = cell.Missing ∷ [] }
    ∷ record { part = 1; number = 0; cells = cell.Date (negsuc 0) ∷ [] }
    ∷ []

dates_rows : whole_rows nothing_told dates ≡ Some date_rows
unfolding base_rows csv_on_literals field_at day_of_text days_from_civil day_count days_of_years days_of_months
dates_rows = ap (λ m. flat_by m dates.base (0 ∷ 1 ∷ [])) (made-Base date_columns)

abbrev dates_value : Shown
dates_value = shown.Range 2 (cell.Date (pos 18321)) (cell.Date (negsuc 0)) 1 None

dates_range : range_shown kind.Date (range_of 0 date_rows) ≡ dates_value
unfolding compare_cells
dates_range = refl

-- the two days and their texts
leap_day : Date
leap_day = record { year = pos 2020; month = 2; day = 29; year_in = search rules; month_in = search rules; day_in = search rules }

eve : Date
eve = record { year = pos 1969; month = 12; day = 31; year_in = search rules; month_in = search rules; day_in = search rules }

leap_number : days_from_civil (pos 2020) 2 29 ≡ pos 18321
unfolding days_from_civil day_count days_of_years days_of_months
leap_number = refl

eve_number : days_from_civil (pos 1969) 12 31 ≡ negsuc 0
unfolding days_from_civil day_count days_of_years days_of_months
eve_number = refl

leap_text : text_of_day (pos 18321) ≡ codes "2020-02-29"
unfolding digits leap_day
leap_text = ap text_of_day (sym leap_number) ∙ text_is leap_day 2020 refl (omega arith)

eve_text : text_of_day (negsuc 0) ≡ codes "1969-12-31"
unfolding digits eve
eve_text = ap text_of_day (sym eve_number) ∙ text_is eve 1969 refl (omega arith)

dates_data : shown_data dates_value
    ≡ object (member (codes "count") (whole_number 2)
    (member (codes "max") (string (codes "2020-02-29"))
    (member (codes "min") (string (codes "1969-12-31"))
    (member (codes "missing") (whole_number 1)
    (member (codes "sum") null no_members)))))
dates_data = rw (leap_text, eve_text) refl

dates_text : compact_text (shown_data dates_value) ≡ codes "{\"count\":2,\"max\":\"2020-02-29\",\"min\":\"1969-12-31\",\"missing\":1,\"sum\":null}"
unfolding serde_json_on_literals digits
dates_text = ap compact_text dates_data
