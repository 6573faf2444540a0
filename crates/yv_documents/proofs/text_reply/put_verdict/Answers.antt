use Rattle.yv_documents.proofs.text_reply.put_verdict.Goals as goal

pub returns-in-TooLarge : goal.returns-in-TooLarge
returns-in-TooLarge g c = rw c.in-TooLarge.is c.put.ensures

pub returns-in-NotJson : goal.returns-in-NotJson
returns-in-NotJson g c = rw c.in-NotJson.is c.put-in-NotJson.ensures

pub returns-in-CannotRead : goal.returns-in-CannotRead
returns-in-CannotRead g c = rw c.in-CannotRead.is c.put-in-CannotRead.ensures

pub returns-in-OutOfMemory : goal.returns-in-OutOfMemory
returns-in-OutOfMemory g c = rw c.in-OutOfMemory.is c.put-in-OutOfMemory.ensures
