-- The text of each reply: compact JSON as the crate serde_json prints it, keys in byte order. This project's own rule.
use Rattle.std.specs.Prelude.{ℕ, List, map, true, Option, Some, None, codes}
use Rattle.serde_json.specs.Data.{Data, boolean, string, object, Members, member, no_members}
use Rattle.serde_json.specs.Written.{compact_text}
use Rattle.hv_lineage.specs.Lineages.{TermOver, lineage_columns}
use Rattle.hv_lineage.specs.Sizes.{term_depth, term_size}
use Rattle.hv_asked.specs.declared.why.Why.{Why}
use Rattle.hv_asked.specs.declared.why.Why.TheVariants as why
use Rattle.hv_reply.specs.declared.reply.Reply.{Reply}
use Rattle.hv_reply.specs.declared.reply.Reply.TheVariants as reply
use Rattle.hv_reply.specs.Lineages.{columns_data, lineage_data}
use Rattle.hv_reply.specs.Values.{list_of, shown_data, whole, whole_or_null}

-- why a text is malformed, in a word
abbrev pub why_word : Why → List ℕ
why_word why.Size = codes "size"
why_word why.Json = codes "json"
why_word why.Id = codes "id"
why_word why.Ended = codes "ended"
why_word why.Busy = codes "busy"
why_word why.Op = codes "op"
why_word why.Field = codes "field"
why_word why.Limit = codes "limit"
why_word why.Object = codes "object"
why_word why.Request = codes "request"
why_word why.Table = codes "table"
why_word why.Schema = codes "schema"
why_word why.Column = codes "column"
why_word why.Kind = codes "kind"
why_word why.Deep = codes "deep"
why_word why.Buckets = codes "buckets"
why_word why.Base = codes "base"
why_word why.Clash = codes "clash"
why_word why.Differs = codes "differs"
why_word why.Depth = codes "depth"
why_word why.Full = codes "full"

-- the seed of a sample, where there is one
abbrev pub seed_members : Option ℕ → Members
seed_members None = no_members
seed_members (Some seed) = member (codes "seed") (whole seed) no_members

-- what an object is: its columns, its depth, how it was made, and its number of nodes
abbrev pub info_data : ℕ → TermOver → Data
info_data id lineage = object (member (codes "cols") (columns_data (lineage_columns lineage))
    (member (codes "depth") (whole (term_depth lineage.term))
    (member (codes "id") (whole id)
    (member (codes "lineage") (lineage_data lineage)
    (member (codes "size") (whole (term_size lineage.term)) no_members)))))

abbrev pub reply_data : Reply → Data
reply_data (reply.Made id made seed) = object (member (codes "id") (whole id) (member (codes "made") (whole made) (seed_members seed)))
reply_data (reply.Info id of) = info_data id of
reply_data (reply.Final id parts value) = object (member (codes "id") (whole id)
    (member (codes "last") (boolean true)
    (member (codes "parts") (list_of (map whole parts.parts))
    (member (codes "value") (shown_data value) no_members))))
reply_data (reply.Cancelled id) = object (member (codes "cancelled") (boolean true) (member (codes "id") (whole id) no_members))
reply_data (reply.Done id) = object (member (codes "done") (boolean true) (member (codes "id") (whole id) no_members))
reply_data (reply.Malformed id word) = object (member (codes "error") (string (codes "malformed"))
    (member (codes "id") (whole_or_null id)
    (member (codes "why") (string (why_word word)) no_members)))
reply_data (reply.NoMem id) = object (member (codes "error") (string (codes "nomem")) (member (codes "id") (whole_or_null id) no_members))

-- the text of a reply
abbrev pub reply_text : Reply → List ℕ
reply_text r = compact_text (reply_data r)
