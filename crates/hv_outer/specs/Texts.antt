-- What the errors of the outside say of themselves: this project's own texts.
use Rattle.std.specs.Prelude.{ℕ, List, codes}
use Rattle.hv_outer.specs.declared.io_err.IoErr.{IoErr}
use Rattle.hv_outer.specs.declared.io_err.IoErr.TheVariants.{Failed as IoFailed, Memory as IoMemory}
use Rattle.hv_outer.specs.declared.turns.ReadAllErr.{ReadAllErr}
use Rattle.hv_outer.specs.declared.turns.ReadAllErr.TheVariants.{Failed, TooLong, Memory}

-- the text of an error of one call
abbrev pub io_err_text : IoErr → List ℕ
io_err_text IoFailed = codes "the outside failed"
io_err_text IoMemory = codes "out of memory"

-- the text of an error of a whole read
abbrev pub read_all_err_text : ReadAllErr → List ℕ
read_all_err_text Failed = codes "the source failed"
read_all_err_text TooLong = codes "more bytes than the limit"
read_all_err_text Memory = codes "out of memory"
