-- What the jobs write. // this project's own
use Rattle.std.specs.Fmt.{decimal}
use Rattle.std.specs.Prelude.{ℕ, List, ◌++◌, codes, length}
use Rattle.iso_history.specs.declared.entry.Entry.{Entry}
use Rattle.iso_render.specs.Summary.{summary}
use Rattle.iso_render.specs.Trace.{trace}
use Rattle.iso_render.specs.Transcript.{transcript}
use Rattle.iso_render.specs.declared.outputs.Output.{Output}
use Rattle.iso_script.specs.declared.script.Script.{Script}

-- what is written of a run: its transcript, the trace behind it, or its summary
abbrev pub output_text : Output → Script → List Entry → List ℕ
output_text Output.Transcript script entries = transcript script entries
output_text Output.Traced script entries = transcript script entries ++ trace script entries
output_text Output.Summary script entries = summary script entries

-- what is written of a script that is only read: the number of its lines
abbrev pub count_text : Script → List ℕ
count_text script = codes "SCRIPT OK " ++ decimal (length script.lines) ++ codes "\n"
