pub mod MadeDocuments
